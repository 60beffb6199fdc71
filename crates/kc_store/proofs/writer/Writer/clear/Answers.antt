use Rattle.std.proofs.Common.{rules, ◌≡◌, ◌<◌, sym, ap, ◌∙◌, subst, arith}
use Rattle.kc_groups.specs.declared.plans.PhasePlan.{PhasePlan}
use Rattle.kc_words.specs.Packed.{packed}
use Rattle.kc_store.specs.Plans.{Move}
use Rattle.kc_store.specs.private.Plans.{IsMoveAt}
use Rattle.kc_store.proofs.Views.{writers_move, writer_cleared}
use Rattle.kc_store.proofs.Calls.{clears_from}
use Rattle.kc_store.proofs.writer.Writer.clear.Goals as goal

pub move_at-label-requires-clause-label : goal.move_at-label-requires-clause-label
move_at-label-requires-clause-label c = let a = writers_move _ _ _ _ _ c.self.invariant c.self.view_is c.requires.plan c.requires.place in (a.group, a.label, a.at.group_is, a.label_is)

pub move_at-label-requires-clause-found : goal.move_at-label-requires-clause-found
move_at-label-requires-clause-found c = let a = writers_move _ _ _ _ _ c.self.invariant c.self.view_is c.requires.plan c.requires.place in (a.group, a.move, a.at)

pub store-requires : goal.store-requires
store-requires c =
    let a = writers_move _ _ _ _ _ c.self.invariant c.self.view_is c.requires.plan c.requires.place in
    let same = (c.move_at-label.ensures a.group a.move a.at).0 in
    let vertex = ap (λ (m : Move). m.vertex) same in
    let plan = c.requires.plan ∙ ap (λ z. z.state.plan) (sym c.self.view_is) in
    let table : c.self.inside.seat.table_id ≡ c.store.inside.table.shared.table_id = search rules in
    let words = ap (λ z. z.words) table in (
      table,
      omega (arith, a.inside, vertex, c.self.invariant.sized, words),
      clears_from _ c.store.inside.n _ _ _ _ c.args.g c.args.i _ a.group a.move c.store.invariant.0 c.self.invariant.me_is (subst (λ k. c.args.g < k) (ap (λ z. z.state.published) (sym c.self.view_is)) c.requires.late)
          (subst (λ (p : PhasePlan). IsMoveAt p c.args.g c.args.i a.group a.move) plan a.at) vertex (c.pack.ensures ∙ ap (λ (m : Move). packed m.new 0 0) same),
    )

pub returns : goal.returns
returns c =
    let a = writers_move _ _ _ _ _ c.self.invariant c.self.view_is c.requires.plan c.requires.place in
    let same = (c.move_at-label.ensures a.group a.move a.at).0 in
    writer_cleared c.self.inside.seat c.store-2.new.seat c.args.self.now _ _ c.self.invariant c.self.view_is c.store-2.ensures.0 c.store-2.ensures.2 (ap (λ (m : Move). m.vertex) same ∙ sym a.vertex_is)
