-- What threads find on their passes over the neighbours of vertices that go up.
use Rattle.std.specs.Prelude.{ℕ, ◌-◌, ◌≡◌, ◌&&◌, nat_lt, nat_le, Bool, List, length, get_or, filter, map}
use Rattle.std.specs.List.{flat_map}
use Rattle.kc_graph.specs.Shape.{neighbours_of}
use Rattle.kc_levels.specs.LevelList.{at_least}
use Rattle.kc_adj.specs.declared.passes.Visit.{Visit}
use Rattle.kc_adj.specs.declared.passes.Passed.{Passed}
use Rattle.kc_adj.specs.private.Lifting.{LiftShape, is_unmoved}

-- w stays, and a neighbour that goes from the level k up to l may change one of its counts
abbrev pub is_touched : LiftShape → ℕ → ℕ → ℕ → Bool
is_touched lift k l w = is_unmoved lift w && (nat_lt k (get_or lift.new w 0) && nat_le (get_or lift.new w 0 - 1) l)

-- the neighbours of v whose counts may change as it goes up
abbrev pub touched_by : LiftShape → ℕ → List ℕ
touched_by lift v = filter (is_touched lift (get_or lift.old v 0) (get_or lift.new v 0)) (neighbours_of v lift.graph.edges)

-- the result of a pass at v: both its counts, with all vertices on their new levels, and how many vertices it touches
abbrev pub visit_of : LiftShape → ℕ → Visit
visit_of lift v = record {
  own = at_least lift.graph lift.new v (get_or lift.new v 0);
  below = at_least lift.graph lift.new v (get_or lift.new v 0 - 1);
  touched = length (touched_by lift v);
}

-- the results of the passes at the vertices of a list, and the vertices that they touch, those of the first pass first
pub record ArePassed (lift : LiftShape) (vertices : List ℕ) (r : Passed) : Type 0 where
  pub visits : r.visits.items ≡ map (visit_of lift) vertices
  pub touched : r.touched.items ≡ flat_map (touched_by lift) vertices
