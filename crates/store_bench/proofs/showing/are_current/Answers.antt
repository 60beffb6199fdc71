use Rattle.std.proofs.Common.{ℕ, List, ◌≡◌, ◌<◌, get_or, length, ap, sym, subst, ◌∙◌, arith}
use mathlib.Core.Logic.{dite}
use native.Mathlib.Decide.{ℕ_discrete}
use Rattle.kc_history.specs.declared.entries.Entry.{Entry}
use Rattle.kc_store.specs.declared.roles.WriterState.{WriterState}
use Rattle.kc_store.specs.Showing.{AreCurrent}
use Rattle.store_bench.proofs.Shows.{get_or_any}
use Rattle.store_bench.proofs.showing.are_current.Goals as goal

pub loop-g-preserved : goal.loop-g-preserved
loop-g-preserved c =
    let inv = c.loop-g.invariant in
    let g : ℕ = c.loop-g.g in
    let slice = c.as_slice-groups.ensures in
    let inside : g < length c.args.plan.now.groups = subst (λ (es : List Entry). g < length es) slice c.loop-g-test.true in
    let here : AreCurrent c.args.n c.args.writer.now.state.history c.index-groups-g.result = subst (λ (es : List Entry). AreCurrent c.args.n es c.index-groups-g.result) (ap (λ (s : WriterState). s.history) inv.1) c.if-not-is_current.ensures.current in
    let is : c.index-groups-g.result ≡ get_or c.args.plan.now.groups g c.index-groups-g.result = c.index-groups-g.is ∙ ap (λ (es : List Entry). get_or es g c.index-groups-g.result) slice in (
      c.is_current.ensures.table ∙ inv.0,
      c.is_current.ensures.same ∙ ap (λ (s : WriterState). record s { joined = c.is_current.new.writer.state.joined }) inv.1,
      (λ k d lt. dite (ℕ_discrete k g)
          (λ s. subst (AreCurrent c.args.n c.args.writer.now.state.history) (is ∙ (get_or_any c.args.plan.now.groups g _ d inside ∙ ap (λ (z : ℕ). get_or c.args.plan.now.groups z d) (sym s))) here)
          (λ o. inv.2 k d (omega (arith, lt, o)))),
    )
