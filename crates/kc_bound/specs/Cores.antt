-- Cores of a graph, and the coreness of a vertex.
use Rattle.std.specs.Prelude.{ℕ, ◌≤◌, ◌<◌, ◌≡◌, Bool, true, count_by}
use Rattle.kc_graph.specs.Shape.{GraphShape, neighbours_of}

-- how many neighbours of v are in a set of vertices
unfoldable pub degree_within : GraphShape → (ℕ → Bool) → ℕ → ℕ
degree_within g s v = count_by s (neighbours_of v g.edges)

-- a set of vertices, each of which has at least k neighbours in it
pub record IsCore (g : GraphShape) (k : ℕ) (s : ℕ → Bool) : Type 0 where
  pub vertices : (u : ℕ) → s u ≡ true → u < g.vertices
  pub enough : (u : ℕ) → s u ≡ true → k ≤ degree_within g s u

-- k is the coreness of v: the greatest number for which such a set holds v
pub record IsCoreness (g : GraphShape) (v k : ℕ) : Type 0 where
  pub set : ℕ → Bool
  pub core : IsCore g k set
  pub holds : set v ≡ true
  pub most : (s : ℕ → Bool) (m : ℕ) → IsCore g m s → s v ≡ true → m ≤ k
