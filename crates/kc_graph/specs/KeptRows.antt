-- The edges of rows of neighbours, and what the rows of a `Graph` keep.
use Rattle.std.specs.Prelude.{ℕ, ◌≤◌, ◌<◌, ◌≡◌, nat_lt, cond, List, [], ◌∷◌, ◌++◌, length, get_or}
use Rattle.std.proofs.Common.{suc}
use Rattle.kc_graph.specs.declared.limits.TheConstants.{MAX_VERTICES, MAX_EDGES}
use Rattle.kc_graph.specs.Shape.{Pair, EdgesFrom, neighbours_of}

-- the edges from a vertex a to the numbers of its row above it
abbrev pub edges_at : ℕ → List ℕ → List Pair
edges_at a [] = []
edges_at a (b ∷ bs) = cond (nat_lt a b) ((a, b) ∷ edges_at a bs) (edges_at a bs)

-- the edges of rows of neighbours, of which the first is that of vertex a
abbrev pub edges_of : ℕ → List (List ℕ) → List Pair
edges_of a [] = []
edges_of a (row ∷ rows) = edges_at a row ++ edges_of (suc a) rows

-- n rows for `count` edges of a graph, each row its vertex's neighbours in that graph
pub record IsKept (n : ℕ) (rows : List (List ℕ)) (count : ℕ) : Type 0 where
  pub positive : 1 ≤ n
  pub small : n ≤ MAX_VERTICES
  pub sized : length rows ≡ n
  pub rising : EdgesFrom n 0 0 (edges_of 0 rows)
  pub rows_are : (v : ℕ) → v < n → get_or rows v [] ≡ neighbours_of v (edges_of 0 rows)
  pub counted : length (edges_of 0 rows) ≡ count
  pub few : count ≤ MAX_EDGES
