-- A step of a sweep, from a level to the next: what its two passes over rows read, tell and write.
use Rattle.std.specs.Prelude.{ℕ, ◌+◌, ◌≤◌, ◌≡◌, ◌<◌, ◌==◌, ◌&&◌, ◌++◌, ◌∷◌, nat_lt, cond, true, false, Bool, List, [], count_by, filter, map, length, get_or}
use Rattle.std.specs.List.{flat_map}
use Rattle.kc_graph.specs.Numbers.{has_number}
use Rattle.kc_graph.specs.Shape.{GraphShape, Pair, IsGraph, neighbours_of}
use Rattle.kc_insert.specs.declared.rising.RisingLevels.{RisingLevels}
use Rattle.kc_insert.specs.private.Rising.{rises, seen}
use Rattle.kc_insert.specs.private.Watched.{count_at, StayWatched}
use Rattle.kc_insert.specs.Ranges.{Watch}

-- what contracts see of a `Step`
pub record Crossing : Type 0 where
  pub graph : GraphShape
  pub levels : RisingLevels
  pub width : ℕ
  pub level : ℕ
  pub is_dealt : Bool

-- the graph is one, each vertex has a level, and there is a next level
pub record IsCrossing (step : Crossing) : Type 0 where
  pub graph : IsGraph step.graph
  pub sized : length (seen step.levels) ≡ step.graph.vertices
  pub small : step.level < 65534

-- the neighbours of v that rise
abbrev pub rising_near : Crossing → ℕ → List ℕ
rising_near step v = filter (rises step.levels) (neighbours_of v step.graph.edges)

-- w is above the level, or rises
abbrev pub count_above : Crossing → ℕ → Bool
count_above step w = nat_lt step.level (get_or step.levels.stored w 0)

-- w is above the level and doesn't rise
abbrev pub is_above : Crossing → ℕ → Bool
is_above step w = nat_lt step.level (get_or step.levels.stored w 0) && nat_lt (get_or step.levels.stored w 0) 65535

-- the neighbours of v that are above the level and don't rise
abbrev pub above_near : Crossing → ℕ → List ℕ
above_near step v = filter (is_above step) (neighbours_of v step.graph.edges)

-- the neighbours of v that are on the next level and don't rise
abbrev pub next_near : Crossing → ℕ → List ℕ
next_near step v = filter (λ w. get_or step.levels.stored w 0 == step.level + 1) (neighbours_of v step.graph.edges)

-- each of the vertices, followed by its level
abbrev pub with_levels : List ℕ → List ℕ → List ℕ
with_levels x [] = []
with_levels x (w ∷ ws) = w ∷ get_or x w 0 ∷ with_levels x ws

-- the risers of those meetings where the riser goes on and the other stays on the level
abbrev pub left_at : Crossing → List Pair → List ℕ
left_at step met = map (λ (e : Pair). e.0) (filter (λ (e : Pair). rises step.levels e.0 && (get_or (seen step.levels) e.1 0 == step.level)) met)

-- the others of those meetings where the riser came up
abbrev pub met_by : Crossing → List Pair → List ℕ
met_by step met = map (λ (e : Pair). e.1) (filter (λ (e : Pair). rises step.levels e.0) met)

-- the meetings on the level k of v with those of the list that are above the level l
abbrev pub meetings_on : List ℕ → ℕ → ℕ → ℕ → List ℕ → List Pair
meetings_on x l v k [] = []
meetings_on x l v k (w ∷ ws) = cond (nat_lt l k && (get_or x w 0 == k)) ((v, w) ∷ meetings_on x l v k ws) (meetings_on x l v k ws)

-- the meetings on the level k of v with its neighbours
abbrev pub meetings_of : Crossing → ℕ → ℕ → List Pair
meetings_of step k v = meetings_on step.levels.stored step.level v k (neighbours_of v step.graph.edges)

-- the meetings of the vertices in the list follow those that were filed
pub record HaveMeetings (step : Crossing) (begun : List ℕ) (old new : List (List Pair)) : Type 0 where
  pub sized : length new ≡ length old
  pub filed : (k : ℕ) → k < 65535 → get_or new k [] ≡ get_or old k [] ++ flat_map (meetings_of step k) begun

-- the vertices in the list count afresh, and all others count as before
pub record HaveBegun (step : Crossing) (begun : List ℕ) (old new : Watch) : Type 0 where
  pub watched : StayWatched old new
  pub own : (v : ℕ) → has_number v begun ≡ true → count_at new v ≡ count_by (count_above step) (neighbours_of v step.graph.edges)
  pub others : (v : ℕ) → old.first ≤ v → has_number v begun ≡ false → count_at new v ≡ count_at old v
