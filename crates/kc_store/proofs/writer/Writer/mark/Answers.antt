use Rattle.std.proofs.Common.{rules, ◌≡◌, ◌<◌, ◌≤◌, ◌^◌, refl, sym, ap, ◌∙◌, subst, arith}
use Rattle.std.proofs.lemmas.Bool.Decides.{nat_tests}
use Rattle.kc_groups.specs.declared.plans.PhasePlan.{PhasePlan}
use Rattle.kc_words.specs.Packed.{packed}
use Rattle.kc_store.specs.Plans.{Move}
use Rattle.kc_store.specs.private.Plans.{IsMoveAt}
use Rattle.kc_store.proofs.Limits.{vertex_fits, phase_fits}
use Rattle.kc_store.proofs.Forms.{label_same}
use Rattle.kc_store.proofs.Views.{writers_move, writer_marked, marks_after, same_vertices}
use Rattle.kc_store.proofs.Calls.{notes_from}
use Rattle.kc_store.proofs.writer.Writer.mark.Goals as goal

pub move_at-label-requires-clause-label : goal.move_at-label-requires-clause-label
move_at-label-requires-clause-label c = let a = writers_move _ _ _ _ _ c.self.invariant c.self.view_is c.requires.plan c.requires.place in (a.group, a.label, a.at.group_is, a.label_is)

pub move_at-label-requires-clause-found : goal.move_at-label-requires-clause-found
move_at-label-requires-clause-found c = let a = writers_move _ _ _ _ _ c.self.invariant c.self.view_is c.requires.plan c.requires.place in (a.group, a.move, a.at)

pub store-requires : goal.store-requires
store-requires c =
    let a = writers_move _ _ _ _ _ c.self.invariant c.self.view_is c.requires.plan c.requires.place in
    let m = c.move_at-label.ensures a.group a.move a.at in
    let vertex = ap (λ (m : Move). m.vertex) m.0 in
    let old = ap (λ (m : Move). m.old) m.0 in
    let plan = c.requires.plan ∙ ap (λ z. z.state.plan) (sym c.self.view_is) in
    let table : c.self.inside.seat.table_id ≡ c.store.inside.table.shared.table_id = search rules in
    let words = ap (λ z. z.words) table in
    let size = c.store.invariant.1 in (
      table,
      omega (arith, a.inside, vertex, c.self.invariant.sized, words, size),
      notes_from _ c.store.inside.n _ _ _ _ c.move_at-label.result.0.vertex c.args.g c.args.i a.label _ a.group a.move c.store.invariant.0 c.self.invariant.me_is
          (subst (λ k. k ≤ c.args.g) (ap (λ z. z.state.published) (sym c.self.view_is)) c.requires.early)
          (subst (λ (p : PhasePlan). IsMoveAt p c.args.g c.args.i a.group a.move) plan a.at) a.label_is (subst (λ k. k < 2 ^ 16) old c.word_of-old.ensures.short) vertex refl (c.word_of-old.ensures.value ∙ old),
    )

pub pack-requires-clause-label : goal.pack-requires-clause-label
pack-requires-clause-label c =
    let a = writers_move _ _ _ _ _ c.self.invariant c.self.view_is c.requires.plan c.requires.place in
    let m = c.move_at-label.ensures a.group a.move a.at in
    subst (λ k. k < 16777216) (label_same _ _ (sym a.label_is ∙ m.1)) (vertex_fits _ _ c.self.invariant.small a.label_in)

pub pack-requires-clause-phase : goal.pack-requires-clause-phase
pack-requires-clause-phase c = grind (arith, nat_tests, phase_fits, c.requires.plan, c.phase_of.ensures, c.self.invariant.formed.phase_is, c.self.invariant.phase_in)

pub store-requires-2 : goal.store-requires-2
store-requires-2 c =
    let a = writers_move _ _ _ _ _ c.self.invariant c.self.view_is c.requires.plan c.requires.place in
    let m = c.move_at-label.ensures a.group a.move a.at in
    let vertex = ap (λ (m : Move). m.vertex) m.0 in
    let label = label_same _ _ (sym a.label_is ∙ m.1) in
    let sized = c.self.invariant.sized in
    let plan = c.requires.plan ∙ ap (λ z. z.state.plan) (sym c.self.view_is) in
    let phase = c.phase_of.ensures ∙ (ap (λ (p : PhasePlan). p.quiet.phase) plan ∙ c.self.invariant.formed.phase_is) in
    let table : c.self.inside.seat.table_id ≡ c.store.inside.table.shared.table_id = search rules in
    let words = ap (λ z. z.words) table in
    let size = c.store.invariant.1 in (
      c.store-2.ensures.0 ∙ table,
      omega (arith, a.inside, vertex, sized, words, size),
      marks_after _ c.store.inside.n _ _ _ _ c.args.g c.args.i a.label _ c.self.inside.seat.me _ a.group a.move c.store.invariant.0 c.self.invariant.me_is
          (same_vertices _ _ _ (sym words ∙ sized) size) c.store-2.ensures.2 refl
          (subst (λ k. k ≤ c.args.g) (ap (λ z. z.state.published) (sym c.self.view_is)) c.requires.early)
          (subst (λ (p : PhasePlan). IsMoveAt p c.args.g c.args.i a.group a.move) plan a.at) a.label_is vertex
          (c.pack.ensures ∙ (λ i. packed (m.0 i).new (sym label i) (phase i))),
    )

pub returns : goal.returns
returns c =
    let a = writers_move _ _ _ _ _ c.self.invariant c.self.view_is c.requires.plan c.requires.place in
    let m = c.move_at-label.ensures a.group a.move a.at in
    let table : c.self.inside.seat.table_id ≡ c.store.inside.table.shared.table_id = search rules in
    let words = ap (λ z. z.words) table in
    writer_marked c.self.inside.seat c.store-2.new.seat c.store-3.new.seat c.args.self.now c.store.inside.n _ _ _ c.self.invariant c.self.view_is
    (same_vertices _ _ _ (sym words ∙ c.self.invariant.sized) c.store.invariant.1) refl
    c.store-2.ensures.0 c.store-2.ensures.2 c.store-3.ensures.0 c.store-3.ensures.2 (ap (λ (m : Move). m.vertex) m.0 ∙ sym a.vertex_is)
