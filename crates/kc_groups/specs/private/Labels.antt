-- The facts that hold of the labels of vertices that move.
use Rattle.std.specs.Prelude.{ℕ, ◌≤◌, ◌<◌, ◌≡◌, Bool, true, false, List, length, get_or}
use Rattle.kc_graph.specs.Shape.{GraphShape, IsGraph}
use Rattle.kc_graph.specs.Changes.{AllPresent}
use Rattle.kc_groups.specs.declared.plans.Phase.{Phase}
use Rattle.kc_groups.specs.Links.{AreLabels, AreLinked, Path}
use Rattle.kc_groups.specs.private.Gathering.{is_mover}

-- a vertex v that moves and has the label l
pub record IsMarked (g : GraphShape) (moved : ℕ → Bool) (v l : ℕ) : Type 0 where
  pub moves : moved v ≡ true
  pub low : l ≤ v
  pub reached : (k : ℕ) × Path g moved v l k

-- a label is its own label, and linked vertices have one label
pub record AreJoined (g : GraphShape) (moved : ℕ → Bool) (labels : List ℕ) : Type 0 where
  pub root : (v : ℕ) → v < g.vertices → moved v ≡ true → (get_or labels v 0 < g.vertices) × (get_or labels (get_or labels v 0) 0 ≡ get_or labels v 0)
  pub one : (v w : ℕ) → v < g.vertices → AreLinked g moved v w → get_or labels w 0 ≡ get_or labels v 0

-- the facts of labels without links: a label is at most its vertex, and a vertex that stays has no label
pub record AreRooted (n : ℕ) (moved : ℕ → Bool) (labels : List ℕ) : Type 0 where
  pub sized : length labels ≡ n
  pub root : (v : ℕ) → v < n → moved v ≡ true → (get_or labels v 0 < n) × (get_or labels (get_or labels v 0) 0 ≡ get_or labels v 0)
  pub low : (v : ℕ) → v < n → moved v ≡ true → get_or labels v 0 ≤ v
  pub none : (v : ℕ) → v < n → moved v ≡ false → get_or labels v 0 ≡ n

-- each vertex that moves in the phase has its label in the graph g, which has the edges of the phase
pub record IsLabelled (g : GraphShape) (phase : Phase) (labels : List ℕ) : Type 0 where
  pub graph : IsGraph g
  pub are : AreLabels g (is_mover phase.moves.now) labels
  pub present : AllPresent g phase.edges.now
