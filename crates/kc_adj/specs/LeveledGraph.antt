-- A graph with a level for each vertex, and the counts that are kept for each vertex.
use Rattle.std.specs.Prelude.{ℕ, ◌-◌, ◌≤◌, ◌<◌, ◌≡◌, List, length, get_or}
use Rattle.kc_graph.specs.Shape.{GraphShape, IsGraph}
use Rattle.kc_graph.specs.declared.limits.TheConstants.{MAX_VERTICES}
use Rattle.kc_levels.specs.LevelList.{at_least}

-- what contracts see of a `LevelAdj`
pub record LeveledGraph : Type 0 where
  pub graph : GraphShape
  pub levels : List ℕ

-- for each vertex the number of its neighbours from d levels below its own on, or from level 0 on
pub record IsCounted (g : GraphShape) (x : List ℕ) (d : ℕ) (counts : List ℕ) : Type 0 where
  pub sized : length counts ≡ g.vertices
  pub values : (v : ℕ) → v < g.vertices → get_or counts v 0 ≡ at_least g x v (get_or x v 0 - d)

-- the facts that a `LevelAdj` keeps
--
-- There is a graph of few enough vertices. Each vertex has a level, and the counts from that level and from the level
-- below on.
pub record IsAdjacency (g : GraphShape) (x own below : List ℕ) : Type 0 where
  pub graph : IsGraph g
  pub small : g.vertices ≤ MAX_VERTICES
  pub sized : length x ≡ g.vertices
  pub own_counts : IsCounted g x 0 own
  pub below_counts : IsCounted g x 1 below
