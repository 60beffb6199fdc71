use Rattle.std.proofs.Common.{drop}
use Rattle.kc_adj.specs.private.Linking.{LosesEdges}
use Rattle.kc_adj.proofs.links.uncount_edges.Given as goal

abbrev pub invariant-loop-e : goal.invariant-loop-e
invariant-loop-e l = LosesEdges l.graph l.levels l.counts.own.items l.counts.below.items (drop l.e-index l.edges)
