use Rattle.std.proofs.Common.{◌≡◌}
use Rattle.test_support.proofs.graphs.graph_of.Given as goal

abbrev pub invariant-loop-pair : goal.invariant-loop-pair
invariant-loop-pair l = l.graph.vertices ≡ l.n
