-- Sets of vertices as tests, and what a graph has in them.
use Rattle.std.specs.Prelude.{ℕ, ◌≡◌, ◌<◌, Bool, false, ◌&&◌, List, [], ◌∷◌, count_by, All}
use Rattle.kc_graph.specs.Numbers.{has_number}
use Rattle.kc_graph.specs.Shape.{GraphShape, Pair, neighbours_of}

-- the vertices of a list, as a set
abbrev pub members_of : List ℕ → ℕ → Bool
members_of xs v = has_number v xs

-- how many neighbours of v are in a set of vertices
unfoldable pub degree_within : GraphShape → (ℕ → Bool) → ℕ → ℕ
degree_within g s v = count_by s (neighbours_of v g.edges)

-- how many edges have both ends in a set of vertices
unfoldable pub edges_within : GraphShape → (ℕ → Bool) → ℕ
edges_within g s = count_by (λ (e : Pair). s e.0 && s e.1) g.edges

-- each number stands once
abbrev pub IsOnce : List ℕ → Type 0
IsOnce [] = Unit {0}
IsOnce (x ∷ xs) = (has_number x xs ≡ false) × IsOnce xs

-- different vertices of the graph
pub record AreVertices (g : GraphShape) (xs : List ℕ) : Type 0 where
  pub inside : All (λ v. v < g.vertices) xs
  pub once : IsOnce xs
