use Rattle.std.proofs.Common.{◌≡◌, ◌∙◌, get_or}
use Rattle.std.proofs.lemmas.List.{get_or_read}
use Rattle.kc_adj.proofs.Linking.{awaited_own, awaited_below, awaiting_next}
use Rattle.kc_adj.proofs.links.count_edges.Goals as goal

pub count_edge-requires-clause-own : goal.count_edge-requires-clause-own
count_edge-requires-clause-own c =
    let e_is : (c.e.inside.a, c.e.inside.b) ≡ get_or c.args.edges.now c.loop-e.e-index (0, 0) = c.e.view_is ∙ get_or_read _ c.loop-e.e-index _ c.loop-e-test.true c.e-item.is (0, 0) in
    awaited_own c.args.graph.now c.args.levels.now c.loop-e.counts.own.items c.loop-e.counts.below.items c.args.edges.now c.loop-e.e-index (c.e.inside.a, c.e.inside.b) c.loop-e-test.true e_is c.e.invariant c.loop-e.invariant

pub count_edge-requires-clause-below : goal.count_edge-requires-clause-below
count_edge-requires-clause-below c =
    let e_is : (c.e.inside.a, c.e.inside.b) ≡ get_or c.args.edges.now c.loop-e.e-index (0, 0) = c.e.view_is ∙ get_or_read _ c.loop-e.e-index _ c.loop-e-test.true c.e-item.is (0, 0) in
    awaited_below c.args.graph.now c.args.levels.now c.loop-e.counts.own.items c.loop-e.counts.below.items c.args.edges.now c.loop-e.e-index (c.e.inside.a, c.e.inside.b) c.loop-e-test.true e_is c.e.invariant c.loop-e.invariant

pub loop-e-preserved : goal.loop-e-preserved
loop-e-preserved c =
    let e_is : (c.e.inside.a, c.e.inside.b) ≡ get_or c.args.edges.now c.loop-e.e-index (0, 0) = c.e.view_is ∙ get_or_read _ c.loop-e.e-index _ c.loop-e-test.true c.e-item.is (0, 0) in
    awaiting_next c.args.graph.now c.args.levels.now c.loop-e.counts.own.items c.loop-e.counts.below.items c.args.edges.now c.loop-e.e-index (c.e.inside.a, c.e.inside.b) c.loop-e-test.true e_is c.e.invariant c.loop-e.invariant _ _ c.count_edge.ensures.own c.count_edge.ensures.below
