-- What all ranges tell and hear.
use Rattle.std.specs.Prelude.{All, ℕ, ◌+◌, ◌^◌, ◌≤◌, ◌<◌, ◌≡◌, ◌++◌, true, Bool, List, [], length, get_or}
use Rattle.std.specs.List.{flat_map}
use Rattle.kc_graph.specs.Numbers.{has_number}
use Rattle.kc_graph.specs.Shape.{neighbours_of}
use Rattle.kc_adj.specs.Degrees.{degrees}
use Rattle.kc_insert.specs.private.Crossing.{Crossing, met_by, next_near, rising_near}
use Rattle.kc_insert.specs.private.Parts.{CanPart, CanRise, HasHeardLess, HasRisen, HaveMet}
use Rattle.kc_insert.specs.Ranges.{HasVertex, Part, range_of, Tell}
use Rattle.kc_insert.specs.private.Telling.{in_range, times}
use Rattle.kc_insert.specs.private.Watched.{count_at, StayWatched}

-- all that is told
abbrev pub told_all : List Tell → List ℕ
told_all told = flat_map (λ (t : Tell). t.all) told

-- there is a list for each of n ranges, and each has its vertices if what is told is dealt
pub record AreTold (width : ℕ) (is_dealt : Bool) (n : ℕ) (told : List Tell) : Type 0 where
  pub sized : All (λ (t : Tell). length t.lists ≡ n) told
  pub dealt : is_dealt ≡ true → All (λ (t : Tell). (k : ℕ) → k < n → get_or t.lists k [] ≡ in_range width k t.all) told

-- each vertex of the list is of its range, and counts at least as many as it is told
pub record CanLessen (width : ℕ) (told : List ℕ) (old : List Part) : Type 0 where
  pub held : (v : ℕ) (d : Part) → has_number v told ≡ true → (range_of width v < length old) × HasVertex (get_or old (range_of width v) d).watch v
  pub enough : (v : ℕ) (d : Part) → has_number v told ≡ true → times v told ≤ count_at (get_or old (range_of width v) d).watch v

-- each vertex of the list is of its range, and there is room for its count and for those that wait on the level
pub record CanMeet (width level : ℕ) (told : List ℕ) (old : List Part) : Type 0 where
  pub held : (v : ℕ) (d : Part) → has_number v told ≡ true → (range_of width v < length old) × HasVertex (get_or old (range_of width v) d).watch v
  pub small : (v : ℕ) (d : Part) → has_number v told ≡ true → count_at (get_or old (range_of width v) d).watch v + times v told ≤ 2 ^ 31
  pub room : (j : ℕ) (d : Part) → j < length old → level < length (get_or old j d).queue

-- no count is great
abbrev pub AreFew : List Part → Type 0
AreFew old = (j : ℕ) (d : Part) (v : ℕ) → j < length old → count_at (get_or old j d).watch v ≤ 2 ^ 31

-- each range heard what is told of its vertices
pub record HearLess (width : ℕ) (told : List ℕ) (old new : List Part) : Type 0 where
  pub sized : length new ≡ length old
  pub each : (j : ℕ) (d : Part) → j < length old → HasHeardLess (in_range width j told) (get_or old j d) (get_or new j d)

pub record HearMore (width level most : ℕ) (told : List ℕ) (old new : List Part) : Type 0 where
  pub sized : length new ≡ length old
  pub each : (j : ℕ) (d : Part) → j < length old → HaveMet level most (in_range width j told) (get_or old j d) (get_or new j d)

-- what `part_all` asks: each range can tell, and each vertex that is told counts at least as many
pub record CanPartAll (step : Crossing) (old : List Part) (tells : List Tell) : Type 0 where
  pub told : length tells ≡ length old
  pub heard : (i : ℕ) (e : Tell) → i < length old → length (get_or tells i e).lists ≡ length old
  pub each : (i : ℕ) (d : Part) → i < length old → CanPart step (get_or old i d)
  pub lists : (i : ℕ) (d : Part) → i < length old → length (get_or old i d).tell.lists ≡ length old
  pub lessen : CanLessen step.width (flat_map (rising_near step) (flat_map (λ (p : Part). p.stay) old)) old

-- all that ranges tell of vertices that rise
abbrev pub rise_told : Crossing → List Part → List ℕ
rise_told step old = flat_map (λ (p : Part). met_by step (get_or p.meetings (step.level + 1) []) ++ flat_map (next_near step) p.begun) old

-- what `Ranges::rise` asks: each range can rise, each vertex that is told is of its range, and there is room
pub record CanRiseAll (step : Crossing) (old : List Part) (tells : List Tell) : Type 0 where
  pub told : length tells ≡ length old
  pub heard : (i : ℕ) (e : Tell) → i < length old → length (get_or tells i e).lists ≡ length old
  pub each : (i : ℕ) (d : Part) → i < length old → CanRise step (get_or old i d)
  pub lists : (i : ℕ) (d : Part) → i < length old → length (get_or old i d).tell.lists ≡ length old
  pub held : (v : ℕ) (d : Part) → has_number v (rise_told step old) ≡ true → (range_of step.width v < length old) × HasVertex (get_or old (range_of step.width v) d).watch v
  pub few : (v : ℕ) → times v (rise_told step old) ≤ 2 ^ 24
  pub small : (j : ℕ) (d : Part) (v : ℕ) → j < length old → count_at (get_or old j d).watch v ≤ 2 ^ 24
  pub degree : (v : ℕ) → length (neighbours_of v step.graph.edges) ≤ 2 ^ 24
  pub room : (j : ℕ) (d : Part) → j < length old → step.level + 1 < length (get_or old j d).queue

-- a range rose, and heard of those that rise
pub record RisesAndHears (step : Crossing) (most : ℕ) (told : List ℕ) (old new : Part) : Type 0 where
  pub mid : Part
  pub risen : HasRisen step old mid
  pub met : HaveMet (step.level + 1) most told (record mid { tell = new.tell }) new

-- all ranges rose, and heard of the vertices that rise
pub record AllRisen (step : Crossing) (most : ℕ) (old new : List Part) : Type 0 where
  pub sized : length new ≡ length old
  pub each : (j : ℕ) (d : Part) → j < length old → RisesAndHears step most (in_range step.width j (rise_told step old)) (get_or old j d) (get_or new j d)
  pub lists : (j : ℕ) (d : Part) → j < length old → length (get_or new j d).tell.lists ≡ length old

-- each vertex counts its neighbours no more that stay, if it rises; all else is as before but for what was told and the
-- steps
pub record AllParted (step : Crossing) (old new : List Part) : Type 0 where
  pub sized : length new ≡ length old
  pub part : (j : ℕ) (d : Part) → j < length old → get_or new j d ≡ record (get_or old j d) { watch = (get_or new j d).watch; tell = (get_or new j d).tell; steps = (get_or old j d).steps + degrees step.graph (get_or old j d).stay }
  pub lists : (j : ℕ) (d : Part) → j < length old → length (get_or new j d).tell.lists ≡ length old
  pub watched : (j : ℕ) (d : Part) → j < length old → StayWatched (get_or old j d).watch (get_or new j d).watch
  pub less : (v : ℕ) (d : Part) → range_of step.width v < length old → HasVertex (get_or old (range_of step.width v) d).watch v → count_at (get_or new (range_of step.width v) d).watch v + times v (flat_map (rising_near step) (flat_map (λ (p : Part). p.stay) old)) ≡ count_at (get_or old (range_of step.width v) d).watch v
