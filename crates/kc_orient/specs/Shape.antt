-- The orientation of a graph by the levels of its vertices.
use Rattle.std.specs.Prelude.{ℕ, ◌≡◌, ◌≤◌, ◌==◌, ◌||◌, ◌&&◌, nat_lt, Bool, true, List, [], length, map, filter, get_or}
use Rattle.std.specs.List.{range_with_len}
use Rattle.kc_graph.specs.declared.limits.TheConstants.{MAX_VERTICES}
use Rattle.kc_graph.specs.Numbers.{has_number, RisesFrom, AllBelow}
use Rattle.kc_graph.specs.Shape.{GraphShape, neighbours_of}

-- whether w is above v: it is on a greater level, or on the same one and the greater number
abbrev pub above : List ℕ → ℕ → ℕ → Bool
above x v w = nat_lt (get_or x v 0) (get_or x w 0) || ((get_or x v 0 == get_or x w 0) && nat_lt v w)

-- the neighbours of v that are above it, ascending
abbrev pub out_neighbours : GraphShape → List ℕ → ℕ → List ℕ
out_neighbours g x v = filter (above x v) (neighbours_of v g.edges)

-- what contracts see of an `Orientation`: the level of each vertex, by which `above` decides, and the out-neighbours of
-- each
pub record OrientationShape : Type 0 where
  pub levels : List ℕ
  pub outs : List (List ℕ)

-- the orientation of a graph: each edge leads to the end that is above the other
abbrev pub orientation : GraphShape → List ℕ → OrientationShape
orientation g x = record { levels = x; outs = map (out_neighbours g x) (range_with_len 0 g.vertices) }

-- out-neighbours ascend, are vertices, and are above their vertex
pub record IsOriented (o : OrientationShape) : Type 0 where
  pub small : length o.levels ≤ MAX_VERTICES
  pub sized : length o.outs ≡ length o.levels
  pub ascending : (v : ℕ) → RisesFrom 0 (get_or o.outs v [])
  pub below : (v : ℕ) → AllBelow (length o.levels) (get_or o.outs v [])
  pub upward : (v w : ℕ) → has_number w (get_or o.outs v []) ≡ true → above o.levels v w ≡ true
