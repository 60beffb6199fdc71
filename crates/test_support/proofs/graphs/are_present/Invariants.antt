use Rattle.std.proofs.Common.{ℕ, ◌≡◌, ◌<◌, true, get_or}
use Rattle.kc_graph.specs.Shape.{has_edge}
use Rattle.test_support.proofs.graphs.are_present.Given as goal

abbrev pub invariant-loop-e : goal.invariant-loop-e
invariant-loop-e l = (k : ℕ) → k < l.e-index → has_edge (get_or l.edges k (0, 0)) l.graph.edges ≡ true
