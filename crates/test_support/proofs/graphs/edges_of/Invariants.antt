use Rattle.std.proofs.Common.{◌≤◌, ◌++◌, List, length}
use Rattle.kc_graph.specs.declared.limits.TheConstants.{MAX_EDGES}
use Rattle.kc_graph.specs.Shape.{Pair, EdgesFrom}
use Rattle.test_support.proofs.graphs.edges_of.Given as goal

abbrev pub invariant-loop-pair : goal.invariant-loop-pair
invariant-loop-pair l = (length l.edges.items ≤ MAX_EDGES) × ((rest : List Pair) → EdgesFrom l.n l.least.0 l.least.1 rest → EdgesFrom l.n 0 0 (l.edges.items ++ rest))
