use Rattle.std.proofs.Common.{◌∙◌, ap, sym}
use Rattle.kc_graph.specs.Shape.{with_edge}
use Rattle.kc_adj.proofs.Linking.{few_at, adjacency_linked}
use Rattle.kc_adj.proofs.level_adj.LevelAdj.link.Goals as goal

pub count_edge-requires-clause-own : goal.count_edge-requires-clause-own
count_edge-requires-clause-own g c = few_at _ _ _ _ _ _ _ _ c.e.view_is c.self.view_is c.e.invariant c.requires.below c.self.invariant 0 c.self.inside.counts.own.items c.self.invariant.own_counts

pub count_edge-requires-clause-below : goal.count_edge-requires-clause-below
count_edge-requires-clause-below g c = few_at _ _ _ _ _ _ _ _ c.e.view_is c.self.view_is c.e.invariant c.requires.below c.self.invariant 1 c.self.inside.counts.below.items c.self.invariant.below_counts

pub invariant_of-self-2 : goal.invariant_of-self-2
invariant_of-self-2 g c = adjacency_linked _ _ _ _ _ _ _ _ c.e.view_is c.self.view_is c.e.invariant c.requires.below c.self.invariant c.requires.absent _ _ _ (c.in_ok-insert.ensures.ok ∙ ap (with_edge c.self.inside.graph) (sym c.e.view_is)) c.count_edge.ensures.own c.count_edge.ensures.below
