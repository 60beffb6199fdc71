use Rattle.std.proofs.Common.{ℕ, List, ◌≡◌, ◌<◌, get_or, length, ap, sym, subst, ◌∙◌, arith}
use mathlib.Core.Logic.{dite}
use native.Mathlib.Decide.{ℕ_discrete}
use Rattle.kc_history.specs.declared.entries.Entry.{Entry}
use Rattle.kc_store.specs.declared.roles.WriterState.{WriterState}
use Rattle.kc_store.specs.Plans.{Move}
use Rattle.kc_store.specs.States.{last_level}
use Rattle.store_bench.proofs.Shows.{get_or_any}
use Rattle.store_bench.proofs.showing.is_current.Goals as goal

pub loop-i-preserved : goal.loop-i-preserved
loop-i-preserved c =
    let inv = c.loop-i.invariant in
    let m : Move = record { vertex = 0; old = 0; new = 0 } in
    let i : ℕ = c.loop-i.i in
    let here : last_level c.args.n c.args.writer.now.state.history (get_or c.args.group.now.moves i m).vertex ≡ (get_or c.args.group.now.moves i m).old =
    subst (λ (z : ℕ × List Entry × List Move). last_level z.0 z.1 (get_or z.2 i m).vertex ≡ (get_or z.2 i m).old)
    (λ j. (sym c.requires.vertices j, (ap (λ (s : WriterState). s.history) inv.1) j, c.as_slice-moves.ensures j)) (c.level_now.ensures.level ∙ c.if-level_now-m.false) in
    let inside : i < length c.args.group.now.moves = subst (λ (ms : List Move). i < length ms) c.as_slice-moves.ensures c.loop-i-test.true in (
      c.level_now.ensures.table ∙ inv.0,
      c.level_now.ensures.same ∙ ap (λ (s : WriterState). record s { joined = c.level_now.new.writer.state.joined }) inv.1,
      (λ k d lt. dite (ℕ_discrete k i)
          (λ s. subst (λ (z : ℕ × Move). last_level c.args.n c.args.writer.now.state.history z.1.vertex ≡ z.1.old) (λ j. (i, (get_or_any c.args.group.now.moves i m d inside ∙ ap (λ (z : ℕ). get_or c.args.group.now.moves z d) (sym s)) j)) here)
          (λ o. inv.2 k d (omega (arith, lt, o)))),
    )
