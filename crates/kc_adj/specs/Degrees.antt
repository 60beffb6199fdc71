-- The numbers of neighbours of the vertices of a list.
use Rattle.std.specs.Prelude.{ℕ, ◌+◌, List, [], ◌∷◌, length}
use Rattle.kc_graph.specs.Shape.{GraphShape, neighbours_of}

-- the sum of the numbers of neighbours of the vertices in the list
abbrev pub degrees : GraphShape → List ℕ → ℕ
degrees g [] = 0
degrees g (v ∷ vs) = length (neighbours_of v g.edges) + degrees g vs
