-- How the counts change when the vertices of a list go up to their new levels, one after another.
--
-- A vertex that stays gains when a neighbour moves. A vertex that moves counts afresh when it moves itself, with all
-- vertices on their new levels.
use Rattle.std.specs.Prelude.{ℕ, ◌+◌, ◌-◌, ◌<◌, ◌≤◌, ◌≡◌, ◌==◌, ◌&&◌, cond, true, false, All, Bool, List, length, get_or}
use Rattle.kc_graph.specs.Numbers.{has_number, RisesFrom}
use Rattle.kc_graph.specs.Shape.{GraphShape, IsGraph, neighbours_of}
use Rattle.kc_graph.specs.declared.limits.TheConstants.{MAX_VERTICES}
use Rattle.kc_levels.specs.LevelList.{at_least, IsBelow}
use Rattle.kc_levels.specs.Following.{AreDistinct}
use Rattle.kc_adj.specs.Degrees.{degrees}
use Rattle.kc_adj.specs.private.Moving.{is_passed}

-- what contracts see of a `Lift`
pub record LiftShape : Type 0 where
  pub graph : GraphShape
  pub old : List ℕ
  pub new : List ℕ

-- both lists have a level for each vertex of a graph, and no vertex is lower in the new one
pub record IsLift (lift : LiftShape) : Type 0 where
  pub graph : IsGraph lift.graph
  pub small : lift.graph.vertices ≤ MAX_VERTICES
  pub before : length lift.old ≡ lift.graph.vertices
  pub after : length lift.new ≡ lift.graph.vertices
  pub over : IsBelow lift.graph.vertices lift.old lift.new

-- the list has vertices of the graph, each once, and every vertex that moves is among them
pub record AreLifted (lift : LiftShape) (vertices : List ℕ) : Type 0 where
  pub inside : All (λ v. v < lift.graph.vertices) vertices
  pub all : (v : ℕ) → get_or lift.old v 0 < get_or lift.new v 0 → has_number v vertices ≡ true
  pub once : AreDistinct vertices

-- the steps of a lift of these vertices: one for each neighbour, and one more for each vertex
abbrev pub lift_cost : LiftShape → List ℕ → ℕ
lift_cost lift vertices = degrees lift.graph vertices + length vertices

-- u stays on its level
abbrev pub is_unmoved : LiftShape → ℕ → Bool
is_unmoved lift u = get_or lift.old u 0 == get_or lift.new u 0

-- the gain of u's count, from d levels below its own on, if a neighbour goes from the level k up to l
--
-- It is nothing if u moves. d is 0 for the count `own`, and 1 for `below`.
abbrev pub gains : LiftShape → ℕ → ℕ → ℕ → ℕ → ℕ
gains lift k l d u = cond (is_unmoved lift u && is_passed k l (get_or lift.new u 0 - d)) 1 0

-- each vertex has a count, and that of a vertex that stays is below the number of vertices
pub record CanGain (lift : LiftShape) (counts : List ℕ) : Type 0 where
  pub sized : length counts ≡ lift.graph.vertices
  pub few : (u : ℕ) → u < lift.graph.vertices → is_unmoved lift u ≡ true → get_or counts u 0 < lift.graph.vertices

-- each vertex in `near` gained what `more` gives, and no other vertex gained
pub record AreGained (more : ℕ → ℕ) (near before counts : List ℕ) : Type 0 where
  pub sized : length counts ≡ length before
  pub values : (u : ℕ) → get_or counts u 0 ≡ get_or before u 0 + cond (has_number u near) (more u) 0

-- the counts of v's neighbours, each from d levels below its own level on, gained what v's move brings them
abbrev pub HaveGained : LiftShape → ℕ → ℕ → List ℕ → List ℕ → Type 0
HaveGained lift v d before counts = AreGained (gains lift (get_or lift.old v 0) (get_or lift.new v 0) d) (neighbours_of v lift.graph.edges) before counts

-- the vertices in `near` gain one after another, and those in `rest` haven't gained yet
pub record AreGaining (more : ℕ → ℕ) (near rest before counts : List ℕ) : Type 0 where
  pub sized : length counts ≡ length before
  pub first : ℕ
  pub rises : RisesFrom first rest
  pub waits : (u : ℕ) → has_number u rest ≡ true → (has_number u near ≡ true) × (get_or counts u 0 ≡ get_or before u 0)
  pub done : (u : ℕ) → has_number u rest ≡ false → get_or counts u 0 ≡ get_or before u 0 + cond (has_number u near) (more u) 0

-- all vertices but those in `rest` are on their new levels
--
-- A vertex that stays counts them so, and a vertex that moved counts as if all were there. Each counts from d levels
-- below its own new level on.
pub record IsLifting (lift : LiftShape) (d : ℕ) (rest counts : List ℕ) : Type 0 where
  pub sized : length counts ≡ lift.graph.vertices
  pub distinct : AreDistinct rest
  pub between : List ℕ
  pub long : length between ≡ lift.graph.vertices
  pub waits : (u : ℕ) → has_number u rest ≡ true → get_or between u 0 ≡ get_or lift.old u 0
  pub passed : (u : ℕ) → has_number u rest ≡ false → get_or between u 0 ≡ get_or lift.new u 0
  pub stays : (u : ℕ) → u < lift.graph.vertices → get_or lift.old u 0 ≡ get_or lift.new u 0 → get_or counts u 0 ≡ at_least lift.graph between u (get_or lift.new u 0 - d)
  pub moved : (u : ℕ) → u < lift.graph.vertices → get_or lift.old u 0 < get_or lift.new u 0 → has_number u rest ≡ false → get_or counts u 0 ≡ at_least lift.graph lift.new u (get_or lift.new u 0 - d)

-- all vertices but those in `rest` are on their levels in z
pub record AreTakenUp (z rest y : List ℕ) : Type 0 where
  pub sized : length y ≡ length z
  pub done : (u : ℕ) → has_number u rest ≡ false → get_or y u 0 ≡ get_or z u 0
