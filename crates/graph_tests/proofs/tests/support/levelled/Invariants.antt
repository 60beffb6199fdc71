use Rattle.std.proofs.Common.{◌≡◌}
use Rattle.graph_tests.proofs.tests.support.levelled.Given as goal

abbrev pub invariant-loop-pair : goal.invariant-loop-pair
invariant-loop-pair g l = l.adj.graph.vertices ≡ l.n

abbrev pub invariant-loop-v : goal.invariant-loop-v
invariant-loop-v g l = l.adj.graph.vertices ≡ l.n
