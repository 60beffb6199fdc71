use Rattle.std.proofs.Common.{◌≡◌, length, ap, sym, ◌∙◌, arith}
use Rattle.std.proofs.lemmas.List.{with_items_is}
use Rattle.kc_graph.specs.Shape.{with_edges}
use Rattle.kc_graph.proofs.lemmas.Changes.{vertices-with_edges}
use Rattle.kc_graph.proofs.lemmas.Numbers.{length-rising}
use Rattle.kc_groups.specs.Gathering.{clean, vertices}
use Rattle.kc_groups.specs.Links.{AreLabels}
use Rattle.kc_groups.specs.private.Gathering.{is_mover}
use Rattle.kc_groups.proofs.WorkLemmas.{many}
use Rattle.kc_groups.proofs.PlanLemmas.{is_labelled}
use Rattle.kc_groups.proofs.planning.plan_moves.Goals as goal

pub gather_rows-requires-clause-small : goal.gather_rows-requires-clause-small
gather_rows-requires-clause-small g c =
    let few = length-rising c.args.graph.now.vertices 0 (vertices c.args.phase.now.moves.now) c.requires.order.rises c.requires.order.below (omega arith) in
    rw (c.as_slice-moves.ensures) (omega (arith, few, many c.args.phase.now.moves.now, c.vertices-n.ensures.small))

pub plan_labelled-requires-clause-small : goal.plan_labelled-requires-clause-small
plan_labelled-requires-clause-small g c =
    let long : length c.label_groups.new.places ≡ c.args.graph.now.vertices = c.label_groups.ensures.sized ∙ vertices-with_edges c.args.graph.now c.args.gone.now in
    omega (arith, long, c.vertices-n.ensures.small)

pub plan_labelled-requires-clause-order : goal.plan_labelled-requires-clause-order
plan_labelled-requires-clause-order g c =
    let long : length c.label_groups.new.places ≡ c.args.graph.now.vertices = c.label_groups.ensures.sized ∙ vertices-with_edges c.args.graph.now c.args.gone.now in
    rw long c.requires.order

pub plan_labelled-requires-clause-labelled : goal.plan_labelled-requires-clause-labelled
plan_labelled-requires-clause-labelled g c =
    let are : AreLabels (with_edges c.args.graph.now c.args.gone.now) (is_mover c.args.phase.now.moves.now) c.label_groups.new.places = rw (sym c.as_slice-moves.ensures) c.label_groups.ensures in
    (with_edges c.args.graph.now c.args.gone.now, is_labelled c.args.graph.now c.args.gone.now c.args.phase.now c.label_groups.new.places c.vertices-n.ensures.graph c.requires.ascending c.requires.present are)

pub returns-clause-clean : goal.returns-clause-clean
returns-clause-clean g c =
    let long : length c.label_groups.new.places ≡ c.args.graph.now.vertices = c.label_groups.ensures.sized ∙ vertices-with_edges c.args.graph.now c.args.gone.now in
    let now : c.plan_labelled.new.places ≡ clean c.args.graph.now.vertices = rw long at c.in_ok-plan.ensures.clean in
    let old = ap length c.as_mut_slice-places.ensures.value ∙ ap length (c.work.view_is ∙ c.requires.clean) in
    rw (with_items_is c.work.inside.places c.plan_labelled.new.places (ap length now ∙ sym old ∙ c.as_mut_slice-places.ensures.len)) now

pub returns-clause-entries : goal.returns-clause-entries
returns-clause-entries g c x y moves =
    let are : AreLabels (with_edges c.args.graph.now c.args.gone.now) (is_mover c.args.phase.now.moves.now) c.label_groups.new.places = rw (sym c.as_slice-moves.ensures) c.label_groups.ensures in
    c.in_ok-plan.ensures.entries (with_edges c.args.graph.now c.args.gone.now) (is_labelled c.args.graph.now c.args.gone.now c.args.phase.now c.label_groups.new.places c.vertices-n.ensures.graph c.requires.ascending c.requires.present are)
    x y (rw (vertices-with_edges c.args.graph.now c.args.gone.now) moves)
