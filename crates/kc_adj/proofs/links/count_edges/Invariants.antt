use Rattle.std.proofs.Common.{drop}
use Rattle.kc_adj.specs.private.Linking.{AwaitsEdges}
use Rattle.kc_adj.proofs.links.count_edges.Given as goal

abbrev pub invariant-loop-e : goal.invariant-loop-e
invariant-loop-e l = AwaitsEdges l.graph l.levels l.counts.own.items l.counts.below.items (drop l.e-index l.edges)
