-- Bounds of degrees.
use Rattle.std.proofs.Common.{ℕ, ◌*◌, ◌≤◌, List, [], ◌∷◌, length, arith}
use Rattle.std.proofs.Math.Nat.{mul-le-mul_right, suc-mul}
use Rattle.std.proofs.lemmas.Bool.Decides.{nat_tests}
use Rattle.kc_graph.specs.Shape.{GraphShape, IsGraph, neighbours_of}
use Rattle.kc_graph.proofs.lemmas.Neighbours.{neighbours_below, neighbours_rise}
use Rattle.kc_graph.proofs.lemmas.Numbers.{length-rising}
use Rattle.kc_adj.specs.Degrees.{degrees}

-- no vertex has more neighbours than there are vertices
pub degree_few : (g : GraphShape) → IsGraph g → (v : ℕ) → length (neighbours_of v g.edges) ≤ g.vertices
degree_few g graph v = omega (arith, length-rising g.vertices 0 (neighbours_of v g.edges) (neighbours_rise g.vertices v g.edges graph) (neighbours_below g.vertices 0 0 v g.edges graph) (omega arith))

degrees_times : (g : GraphShape) → IsGraph g → (vs : List ℕ) → degrees g vs ≤ length vs * g.vertices
degrees_times g graph [] = omega arith
degrees_times g graph (v ∷ vs) = grind (arith, nat_tests, degrees_times g graph vs, degree_few, suc-mul)

-- at most n vertices have together at most n * n neighbours
pub degrees_few : (g : GraphShape) → IsGraph g → g.vertices ≤ 16777216 → (vs : List ℕ) → length vs ≤ g.vertices → degrees g vs ≤ 16777216 * 16777216
degrees_few g graph small vs few = grind (arith, nat_tests, mul-le-mul_right, degrees_times)
