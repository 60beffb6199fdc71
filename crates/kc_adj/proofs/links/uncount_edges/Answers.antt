use Rattle.std.proofs.Common.{◌≡◌, ◌∙◌, get_or}
use Rattle.std.proofs.lemmas.List.{get_or_read}
use Rattle.kc_adj.proofs.Linking.{lost_own, lost_below, losing_next}
use Rattle.kc_adj.proofs.links.uncount_edges.Goals as goal

pub uncount_edge-requires-clause-own : goal.uncount_edge-requires-clause-own
uncount_edge-requires-clause-own c =
    let e_is : (c.e.inside.a, c.e.inside.b) ≡ get_or c.args.edges.now c.loop-e.e-index (0, 0) = c.e.view_is ∙ get_or_read _ c.loop-e.e-index _ c.loop-e-test.true c.e-item.is (0, 0) in
    lost_own c.args.graph.now c.args.levels.now c.loop-e.counts.own.items c.loop-e.counts.below.items c.args.edges.now c.loop-e.e-index (c.e.inside.a, c.e.inside.b) c.loop-e-test.true e_is c.e.invariant c.loop-e.invariant

pub uncount_edge-requires-clause-below : goal.uncount_edge-requires-clause-below
uncount_edge-requires-clause-below c =
    let e_is : (c.e.inside.a, c.e.inside.b) ≡ get_or c.args.edges.now c.loop-e.e-index (0, 0) = c.e.view_is ∙ get_or_read _ c.loop-e.e-index _ c.loop-e-test.true c.e-item.is (0, 0) in
    lost_below c.args.graph.now c.args.levels.now c.loop-e.counts.own.items c.loop-e.counts.below.items c.args.edges.now c.loop-e.e-index (c.e.inside.a, c.e.inside.b) c.loop-e-test.true e_is c.e.invariant c.loop-e.invariant

pub loop-e-preserved : goal.loop-e-preserved
loop-e-preserved c =
    let e_is : (c.e.inside.a, c.e.inside.b) ≡ get_or c.args.edges.now c.loop-e.e-index (0, 0) = c.e.view_is ∙ get_or_read _ c.loop-e.e-index _ c.loop-e-test.true c.e-item.is (0, 0) in
    losing_next c.args.graph.now c.args.levels.now c.loop-e.counts.own.items c.loop-e.counts.below.items c.args.edges.now c.loop-e.e-index (c.e.inside.a, c.e.inside.b) c.loop-e-test.true e_is c.e.invariant c.loop-e.invariant _ _ c.uncount_edge.ensures.own c.uncount_edge.ensures.below
