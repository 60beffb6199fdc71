-- The links between vertices that move in a phase, and the label of each such vertex.
--
-- g is the graph with every edge that is there before or after the phase. `moved` is true for the vertices that move.
use Rattle.std.specs.Prelude.{ℕ, ◌≤◌, ◌<◌, ◌≡◌, Bool, true, false, List, length, get_or}
use Rattle.std.proofs.Common.{suc, zero}
use Rattle.kc_graph.specs.Shape.{GraphShape, joined}

-- two vertices that move and share an edge
pub record AreLinked (g : GraphShape) (moved : ℕ → Bool) (v w : ℕ) : Type 0 where
  pub from : moved v ≡ true
  pub to : moved w ≡ true
  pub edge : joined v w g.edges ≡ true

-- a path of k links from v to w
abbrev pub Path : GraphShape → (ℕ → Bool) → ℕ → ℕ → ℕ → Type 0
Path g moved v w zero = v ≡ w
Path g moved v w (suc k) = (u : ℕ) × AreLinked g moved v u × Path g moved u w k

-- l is the least vertex that a path from v reaches
pub record IsLabel (g : GraphShape) (moved : ℕ → Bool) (v l : ℕ) : Type 0 where
  pub reached : (k : ℕ) × Path g moved v l k
  pub least : (w k : ℕ) → Path g moved v w k → l ≤ w

-- the label of each vertex that moves, and the number of vertices for every other vertex
pub record AreLabels (g : GraphShape) (moved : ℕ → Bool) (labels : List ℕ) : Type 0 where
  pub sized : length labels ≡ g.vertices
  pub label : (v : ℕ) → v < g.vertices → moved v ≡ true → IsLabel g moved v (get_or labels v 0)
  pub none : (v : ℕ) → v < g.vertices → moved v ≡ false → get_or labels v 0 ≡ g.vertices
