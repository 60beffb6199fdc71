use Rattle.std.proofs.Common.{◌≡◌, ◌≤◌, ℕ, false, List, [], length, ap, sym, ◌∙◌, arith}
use Rattle.kc_graph.specs.declared.limits.TheConstants.{MAX_VERTICES}
use Rattle.kc_graph.proofs.lemmas.Numbers.{length-rising}
use Rattle.kc_groups.specs.Gathering.{vertices, AreInOrder}
use Rattle.kc_groups.proofs.WorkLemmas.{many}
use Rattle.std.proofs.lemmas.List.{length-replicate}
use Rattle.kc_levels.specs.Moved.{moves_between}
use Rattle.kc_groups.proofs.PlanLaw.{plan_is_well_formed}
use Rattle.kc_groups.proofs.PlanLemmas.{between_in_order, is_labelled}
use Rattle.kc_groups.proofs.planning.plan_phase.Goals as goal

pub number-requires-clause-order : goal.number-requires-clause-order
number-requires-clause-order c =
    let n = c.args.graph.now.vertices in
    let moves : c.in_ok-moves.moves ≡ moves_between c.args.graph.now.vertices c.args.before.now c.args.after.now =
    c.in_ok-moves.ensures
    ∙ ap (λ k. moves_between k c.as_slice.result.now c.as_slice-2.result.now) c.vertices-n.ensures.count
    ∙ ap (λ x. moves_between n x c.as_slice-2.result.now) c.as_slice.ensures
    ∙ ap (λ y. moves_between n c.args.before.now y) c.as_slice-2.ensures in
    let order : AreInOrder c.args.graph.now.vertices c.in_ok-moves.moves = between_in_order c.args.graph.now.vertices c.args.before.now c.args.after.now c.in_ok-moves.moves moves in
    let long : length c.as_mut_slice-places.result.now ≡ c.args.graph.now.vertices = ap (λ (xs : List ℕ). length xs) c.as_mut_slice-places.ensures.value ∙ ap (λ (xs : List ℕ). length xs) (c.work.view_is ∙ c.in_ok-work.ensures) ∙ length-replicate c.vertices-n.result c.vertices-n.result ∙ c.vertices-n.ensures.count in
    rw (long, c.as_slice-list.ensures) order

pub overflow_cast-list : goal.overflow_cast-list
overflow_cast-list c =
    let n = c.args.graph.now.vertices in
    let moves : c.in_ok-moves.moves ≡ moves_between c.args.graph.now.vertices c.args.before.now c.args.after.now =
    c.in_ok-moves.ensures
    ∙ ap (λ k. moves_between k c.as_slice.result.now c.as_slice-2.result.now) c.vertices-n.ensures.count
    ∙ ap (λ x. moves_between n x c.as_slice-2.result.now) c.as_slice.ensures
    ∙ ap (λ y. moves_between n c.args.before.now y) c.as_slice-2.ensures in
    let order : AreInOrder c.args.graph.now.vertices c.in_ok-moves.moves = between_in_order c.args.graph.now.vertices c.args.before.now c.args.after.now c.in_ok-moves.moves moves in
    let few = length-rising n 0 (vertices c.in_ok-moves.moves) order.rises order.below (omega arith) in
    let small : length c.as_slice-list.result.now ≤ MAX_VERTICES = rw (c.as_slice-list.ensures) (omega (arith, few, many c.in_ok-moves.moves, c.vertices-n.ensures.small)) in
    omega (arith, small)

pub link_rows-requires-clause-small : goal.link_rows-requires-clause-small
link_rows-requires-clause-small c =
    let n = c.args.graph.now.vertices in
    let moves : c.in_ok-moves.moves ≡ moves_between c.args.graph.now.vertices c.args.before.now c.args.after.now =
    c.in_ok-moves.ensures
    ∙ ap (λ k. moves_between k c.as_slice.result.now c.as_slice-2.result.now) c.vertices-n.ensures.count
    ∙ ap (λ x. moves_between n x c.as_slice-2.result.now) c.as_slice.ensures
    ∙ ap (λ y. moves_between n c.args.before.now y) c.as_slice-2.ensures in
    let order : AreInOrder c.args.graph.now.vertices c.in_ok-moves.moves = between_in_order c.args.graph.now.vertices c.args.before.now c.args.after.now c.in_ok-moves.moves moves in
    let few = length-rising n 0 (vertices c.in_ok-moves.moves) order.rises order.below (omega arith) in
    let small : length c.as_slice-list.result.now ≤ MAX_VERTICES = rw (c.as_slice-list.ensures) (omega (arith, few, many c.in_ok-moves.moves, c.vertices-n.ensures.small)) in
    small

pub link_rows-requires-clause-gathered : goal.link_rows-requires-clause-gathered
link_rows-requires-clause-gathered c = ((λ i j. false), rw c.as_mut_slice-parents.ensures.value c.in_ok-forest.ensures)

pub label_groups-requires-clause-gathered : goal.label_groups-requires-clause-gathered
label_groups-requires-clause-gathered c = c.link_rows.ensures (λ i j. false) (rw c.as_mut_slice-parents.ensures.value c.in_ok-forest.ensures)

pub label_groups-requires-clause-order : goal.label_groups-requires-clause-order
label_groups-requires-clause-order c =
    let n = c.args.graph.now.vertices in
    let moves : c.in_ok-moves.moves ≡ moves_between c.args.graph.now.vertices c.args.before.now c.args.after.now =
    c.in_ok-moves.ensures
    ∙ ap (λ k. moves_between k c.as_slice.result.now c.as_slice-2.result.now) c.vertices-n.ensures.count
    ∙ ap (λ x. moves_between n x c.as_slice-2.result.now) c.as_slice.ensures
    ∙ ap (λ y. moves_between n c.args.before.now y) c.as_slice-2.ensures in
    let order : AreInOrder c.args.graph.now.vertices c.in_ok-moves.moves = between_in_order c.args.graph.now.vertices c.args.before.now c.args.after.now c.in_ok-moves.moves moves in
    rw (c.as_slice-list.ensures) order

pub plan_labelled-requires-clause-small : goal.plan_labelled-requires-clause-small
plan_labelled-requires-clause-small c = omega (arith, c.label_groups.ensures.sized, c.vertices-n.ensures.small)

pub plan_labelled-requires-clause-order : goal.plan_labelled-requires-clause-order
plan_labelled-requires-clause-order c =
    let n = c.args.graph.now.vertices in
    let moves : c.in_ok-moves.moves ≡ moves_between c.args.graph.now.vertices c.args.before.now c.args.after.now =
    c.in_ok-moves.ensures
    ∙ ap (λ k. moves_between k c.as_slice.result.now c.as_slice-2.result.now) c.vertices-n.ensures.count
    ∙ ap (λ x. moves_between n x c.as_slice-2.result.now) c.as_slice.ensures
    ∙ ap (λ y. moves_between n c.args.before.now y) c.as_slice-2.ensures in
    let order : AreInOrder c.args.graph.now.vertices c.in_ok-moves.moves = between_in_order c.args.graph.now.vertices c.args.before.now c.args.after.now c.in_ok-moves.moves moves in
    rw c.label_groups.ensures.sized order

pub plan_labelled-requires-clause-labelled : goal.plan_labelled-requires-clause-labelled
plan_labelled-requires-clause-labelled c = (c.args.graph.now, is_labelled c.args.graph.now [] _ c.label_groups.new.places c.vertices-n.ensures.graph tt c.requires.present (rw (sym c.as_slice-list.ensures) c.label_groups.ensures))

pub returns-clause-entries : goal.returns-clause-entries
returns-clause-entries c =
    let n = c.args.graph.now.vertices in
    let moves : c.in_ok-moves.moves ≡ moves_between c.args.graph.now.vertices c.args.before.now c.args.after.now =
    c.in_ok-moves.ensures
    ∙ ap (λ k. moves_between k c.as_slice.result.now c.as_slice-2.result.now) c.vertices-n.ensures.count
    ∙ ap (λ x. moves_between n x c.as_slice-2.result.now) c.as_slice.ensures
    ∙ ap (λ y. moves_between n c.args.before.now y) c.as_slice-2.ensures in
    c.in_ok-plan.ensures.entries c.args.graph.now (is_labelled c.args.graph.now [] _ c.label_groups.new.places c.vertices-n.ensures.graph tt c.requires.present (rw (sym c.as_slice-list.ensures) c.label_groups.ensures))
    c.args.before.now c.args.after.now (record { before = c.requires.before; after = c.requires.after; moves = moves })

pub returns-clause-well_formed : goal.returns-clause-well_formed
returns-clause-well_formed c =
    plan_is_well_formed c.args.phase c.args.add c.args.edges.now c.args.before.now c.args.after.now c.args.graph.now c.in_ok-plan.plan (returns-clause-entries c)
