use Rattle.std.proofs.Common.{◌∙◌, ap, sym}
use Rattle.kc_graph.specs.Shape.{without_edge}
use Rattle.kc_adj.proofs.Linking.{shares_at, adjacency_unlinked}
use Rattle.kc_adj.proofs.level_adj.LevelAdj.unlink.Goals as goal

pub uncount_edge-requires-clause-own : goal.uncount_edge-requires-clause-own
uncount_edge-requires-clause-own g c = shares_at _ _ _ _ _ _ _ _ c.e.view_is c.self.view_is c.e.invariant c.requires.below c.self.invariant c.requires.present 0 c.self.inside.counts.own.items c.self.invariant.own_counts

pub uncount_edge-requires-clause-below : goal.uncount_edge-requires-clause-below
uncount_edge-requires-clause-below g c = shares_at _ _ _ _ _ _ _ _ c.e.view_is c.self.view_is c.e.invariant c.requires.below c.self.invariant c.requires.present 1 c.self.inside.counts.below.items c.self.invariant.below_counts

pub invariant_of-self : goal.invariant_of-self
invariant_of-self g c = adjacency_unlinked _ _ _ _ _ _ _ _ c.e.view_is c.self.view_is c.e.invariant c.requires.below c.self.invariant c.requires.present _ _ _ (c.remove.ensures ∙ ap (without_edge c.self.inside.graph) (sym c.e.view_is)) c.uncount_edge.ensures.own c.uncount_edge.ensures.below
