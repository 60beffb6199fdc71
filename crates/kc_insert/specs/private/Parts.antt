-- The state of a sweep, cut into ranges of vertices.
use Rattle.std.specs.Prelude.{All, ℕ, ◌+◌, ◌-◌, ◌^◌, ◌≤◌, ◌<◌, ◌≡◌, ◌==◌, ◌&&◌, ◌⊎◌, ◌++◌, ◌∷◌, not, true, false, cond, List, [], count_by, length, get_or, set}
use Rattle.std.specs.List.{flat_map}
use Rattle.kc_graph.specs.Numbers.{has_number}
use Rattle.kc_graph.specs.Shape.{has_edge, neighbours_of}
use Rattle.kc_levels.specs.Following.{AreDistinct}
use Rattle.kc_adj.specs.Degrees.{degrees}
use Rattle.kc_insert.specs.declared.rising.RisingLevels.{RisingLevels}
use Rattle.kc_insert.specs.private.Crossing.{Crossing, count_above, HaveMeetings, is_above, left_at, met_by, next_near, rising_near}
use Rattle.kc_insert.specs.private.Rising.{rises}
use Rattle.kc_insert.specs.private.Telling.{AreDealtAnew, heard_by, times}
use Rattle.kc_insert.specs.Ranges.{HasVertex, Part, range_of, Tell, Watch}
use Rattle.kc_insert.specs.private.Watched.{count_at, StayWatched}

-- the vertices in the list, each once, rise no more, since their counts are within the limit. Other vertices of the
-- watch list that still rise count more.
pub record LetStay (old : RisingLevels) (watch : Watch) (new : RisingLevels) (stay : List ℕ) : Type 0 where
  pub rises_on : (v : ℕ) → rises new v ≡ (rises old v && not (has_number v stay))
  pub stays : (v : ℕ) → has_number v stay ≡ true → (rises old v ≡ true) × (count_at watch v ≤ watch.most)
  pub watched : (v : ℕ) → has_number v stay ≡ true → has_number v watch.doubtful ≡ true
  pub over : (v : ℕ) → has_number v watch.doubtful ≡ true → rises new v ≡ true → watch.most < count_at watch v
  pub distinct : AreDistinct stay

-- the lists of those that wait, with v on the level if it counts `most`
abbrev pub waits_met : ℕ → ℕ → ℕ → Part → List (List ℕ)
waits_met level most v p = cond (count_at p.watch v == most) (set p.queue level (get_or p.queue level [] ++ v ∷ [])) p.queue

-- the range where v counts one more, and waits on the level if it then counts one more than `most`
abbrev pub part_met : ℕ → ℕ → ℕ → Part → Part
part_met level most v p = record p { watch = record p.watch { counts = set p.watch.counts (v - p.watch.first) (count_at p.watch v + 1) }; queue = waits_met level most v p }

-- each vertex of the list counts one more for each time that it is there. A vertex that waited waits still. Besides
-- only vertices of the list on the level wait, among them each whose count passed `most`.
pub record HaveMet (level most : ℕ) (vertices : List ℕ) (old new : Part) : Type 0 where
  pub part : new ≡ record old { watch = record old.watch { counts = new.watch.counts }; queue = new.queue }
  pub sized : length new.watch.counts ≡ length old.watch.counts
  pub more : (v : ℕ) → old.watch.first ≤ v → count_at new.watch v ≡ count_at old.watch v + times v vertices
  pub levels : length new.queue ≡ length old.queue
  pub still : (k v : ℕ) → has_number v (get_or old.queue k []) ≡ true → has_number v (get_or new.queue k []) ≡ true
  pub only : (k v : ℕ) → has_number v (get_or new.queue k []) ≡ true → (has_number v (get_or old.queue k []) ≡ true) ⊎ ((k ≡ level) × (has_number v vertices ≡ true))
  pub noted : (v : ℕ) → HasVertex old.watch v → most < count_at new.watch v → (most < count_at old.watch v) ⊎ (has_number v (get_or new.queue level []) ≡ true)

-- what `Range::rise` asks: the vertices and the meetings are of the graph, those that rise are of the range, and there
-- is room
pub record CanRise (step : Crossing) (old : Part) : Type 0 where
  pub met : (v w : ℕ) → has_edge (v, w) (get_or old.meetings step.level []) ≡ true → (v < step.graph.vertices) × (w < step.graph.vertices) × HasVertex old.watch v
  pub enough : (v : ℕ) → times v (left_at step (get_or old.meetings step.level [])) ≤ count_at old.watch v
  pub coming : (v w : ℕ) → has_edge (v, w) (get_or old.meetings (step.level + 1) []) ≡ true → (v < step.graph.vertices) × (w < step.graph.vertices)
  pub begins : (v : ℕ) → has_number v old.begun ≡ true → (v < step.graph.vertices) × HasVertex old.watch v
  pub few : length old.begun ≤ 2 ^ 24
  pub steps : old.steps < 2 ^ 63
  pub levels : step.level + 1 < length old.meetings
  pub places : (w : ℕ) → is_above step w ≡ true → get_or step.levels.stored w 0 < length old.meetings
  pub ranges : (v : ℕ) → v < step.graph.vertices → range_of step.width v < length old.tell.lists

-- the vertices that begin are to meet all above them, and count afresh. Each other vertex counts one less for each
-- meeting at which it goes on and the other stays.
pub record HaveRisen (step : Crossing) (old new : Part) : Type 0 where
  pub meetings : HaveMeetings step old.begun (set old.meetings step.level []) new.meetings
  pub watched : StayWatched old.watch new.watch
  pub own : (v : ℕ) → has_number v old.begun ≡ true → count_at new.watch v ≡ count_by (count_above step) (neighbours_of v step.graph.edges)
  pub others : (v : ℕ) → old.watch.first ≤ v → has_number v old.begun ≡ false → count_at new.watch v + times v (left_at step (get_or old.meetings step.level [])) ≡ count_at old.watch v

-- the range where all that begin have begun to rise; what it counts, is to meet and tells is as in `new`
abbrev pub risen_part : Crossing → Part → Part → Part
risen_part step old new = record old { watch = new.watch; meetings = new.meetings; began = old.began ++ old.begun; risen = old.risen ++ old.begun; begun = []; tell = new.tell; steps = old.steps + degrees step.graph old.begun }

-- what `Range::rise` leaves, writes and tells
pub record HasRisen (step : Crossing) (old new : Part) : Type 0 where
  pub part : new ≡ risen_part step old new
  pub told : new.tell.all ≡ met_by step (get_or old.meetings (step.level + 1) []) ++ flat_map (next_near step) old.begun
  pub lists : length new.tell.lists ≡ length old.tell.lists
  pub dealt : step.is_dealt ≡ true → AreDealtAnew step.width old.tell new.tell
  pub risen : HaveRisen step old new

-- what `Range::part` asks: the vertices are of the graph, and there is room
pub record CanPart (step : Crossing) (old : Part) : Type 0 where
  pub vertices : (v : ℕ) → has_number v old.stay ≡ true → v < step.graph.vertices
  pub few : length old.stay ≤ 2 ^ 24
  pub steps : old.steps < 2 ^ 63
  pub ranges : (v : ℕ) → v < step.graph.vertices → range_of step.width v < length old.tell.lists

-- what `Range::part` tells
pub record HasParted (step : Crossing) (old new : Part) : Type 0 where
  pub part : new ≡ record old { tell = new.tell; steps = old.steps + degrees step.graph old.stay }
  pub told : new.tell.all ≡ flat_map (rising_near step) old.stay
  pub lists : length new.tell.lists ≡ length old.tell.lists
  pub dealt : step.is_dealt ≡ true → AreDealtAnew step.width old.tell new.tell

-- what a range that hears asks: all lists have its place, what it hears is of its vertices, and there is room
pub record CanHearLess (told : List Tell) (own : ℕ) (old : Part) : Type 0 where
  pub lists : All (λ (t : Tell). own < length t.lists) told
  pub held : (v : ℕ) → has_number v (heard_by own told) ≡ true → HasVertex old.watch v
  pub enough : (v : ℕ) → times v (heard_by own told) ≤ count_at old.watch v

pub record CanHearMore (told : List Tell) (own level : ℕ) (old : Part) : Type 0 where
  pub lists : All (λ (t : Tell). own < length t.lists) told
  pub held : (v : ℕ) → has_number v (heard_by own told) ≡ true → HasVertex old.watch v
  pub small : (v : ℕ) → count_at old.watch v + times v (heard_by own told) ≤ 2 ^ 31
  pub room : level < length old.queue

-- each vertex of the list, all of the range, counts one less for each time that it is there
pub record HasHeardLess (told : List ℕ) (old new : Part) : Type 0 where
  pub part : new ≡ record old { watch = new.watch }
  pub watched : StayWatched old.watch new.watch
  pub less : (v : ℕ) → old.watch.first ≤ v → count_at new.watch v + times v told ≡ count_at old.watch v
