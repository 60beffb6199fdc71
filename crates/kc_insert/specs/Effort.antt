-- What rises cost.
use Rattle.std.specs.Prelude.{ℕ, ◌+◌, ◌-◌, ◌*◌, List, length, get_or}
use Rattle.std.proofs.Common.{suc, zero}
use Rattle.kc_graph.specs.Shape.{GraphShape, neighbours_of}

-- the most steps of the rises of a phase. A vertex below n costs, for each level that it rose by from x to y, three for
-- each neighbour and one more.
abbrev pub effort : GraphShape → List ℕ → List ℕ → ℕ → ℕ
effort g x y zero = 0
effort g x y (suc n) = effort g x y n + (get_or y n 0 - get_or x n 0) * (3 * length (neighbours_of n g.edges) + 1)
