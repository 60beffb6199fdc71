use Rattle.std.proofs.Common.{rules, ◌≡◌, ℕ, sym, ap, ◌∙◌, subst, arith}
use Rattle.kc_groups.specs.declared.plans.PhasePlan.{PhasePlan}
use Rattle.kc_groups.specs.WellFormed.{vertex_at}
use Rattle.kc_words.specs.Packed.{packed}
use Rattle.kc_store.specs.Plans.{Move}
use Rattle.kc_store.specs.private.Plans.{IsMoveAt}
use Rattle.kc_store.specs.Seats.{marker_of}
use Rattle.kc_store.proofs.Views.{markers_move, marker_was_cleared}
use Rattle.kc_store.proofs.Calls.{lent_clears_from}
use Rattle.kc_store.proofs.marker.Marker.clear.Goals as goal

pub move_at-label-requires-clause-label : goal.move_at-label-requires-clause-label
move_at-label-requires-clause-label c =
    let a = markers_move _ _ _ _ c.self.invariant.0 c.self.view_is c.requires.plan c.requires.range.1 in
    (a.group, a.label, (subst (λ (k : ℕ). IsMoveAt c.args.plan.now k c.args.i a.group a.move) (sym c.self.invariant.1) a.at).group_is, a.label_is)

pub move_at-label-requires-clause-found : goal.move_at-label-requires-clause-found
move_at-label-requires-clause-found c =
    let a = markers_move _ _ _ _ c.self.invariant.0 c.self.view_is c.requires.plan c.requires.range.1 in
    (a.group, a.move, subst (λ (k : ℕ). IsMoveAt c.args.plan.now k c.args.i a.group a.move) (sym c.self.invariant.1) a.at)

pub store-requires : goal.store-requires
store-requires c =
    let a = markers_move _ _ _ _ c.self.invariant.0 c.self.view_is c.requires.plan c.requires.range.1 in
    let m = c.move_at-label.ensures a.group a.move (subst (λ (k : ℕ). IsMoveAt c.args.plan.now k c.args.i a.group a.move) (sym c.self.invariant.1) a.at) in
    let vertex = ap (λ (m : Move). m.vertex) m.0 in
    let plan = c.requires.plan ∙ ap (λ z. z.state.plan) (sym c.self.view_is) in
    let table : c.self.inside.seat.table_id ≡ c.store.inside.table.shared.table_id = search rules in
    let words = ap (λ z. z.words) table in
    let size = c.store.invariant.1 in (
      table,
      omega (arith, a.inside, vertex, c.self.invariant.0.sized, words, size),
      lent_clears_from _ c.store.inside.n _ _ _ _ c.args.i _ a.group a.move c.store.invariant.0 c.self.invariant.0.me_is (ap (λ z. z.state.loan.published) c.self.view_is ∙ c.requires.late)
          (subst (λ (p : PhasePlan). IsMoveAt p (marker_of c.self.inside.seat.me.0).loan.group c.args.i a.group a.move) plan a.at) vertex (c.pack.ensures ∙ ap (λ (m : Move). packed m.new 0 0) m.0),
    )

pub returns : goal.returns
returns c =
    let a = markers_move _ _ _ _ c.self.invariant.0 c.self.view_is c.requires.plan c.requires.range.1 in
    let m = c.move_at-label.ensures a.group a.move (subst (λ (k : ℕ). IsMoveAt c.args.plan.now k c.args.i a.group a.move) (sym c.self.invariant.1) a.at) in
    let vertex = ap (λ (m : Move). m.vertex) m.0 in
    marker_was_cleared c.self.inside.seat c.store-2.new.seat c.args.self.now _ _ c.self.invariant.0 c.self.view_is c.store-2.ensures.0 c.store-2.ensures.2
    (vertex ∙ (sym a.vertex_is ∙ ap (λ (k : ℕ). vertex_at c.args.plan.now k c.args.i) (ap (λ z. z.state.loan.group) c.self.view_is)))
