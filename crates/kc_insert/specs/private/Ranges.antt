-- All ranges of a graph, seen as one: what each vertex counts, and the lists of all ranges one after another.
use Rattle.std.specs.Prelude.{ℕ, ◌+◌, ◌-◌, ◌^◌, ◌≤◌, ◌<◌, ◌≡◌, ◌⊎◌, ◌&&◌, ◌||◌, not, nat_lt, Bool, true, false, List, [], filter, length, get_or, replicate, set}
use Rattle.std.specs.List.{flat_map}
use Rattle.kc_graph.specs.Numbers.{has_number}
use Rattle.kc_levels.specs.Following.{AreDistinct}
use Rattle.kc_insert.specs.declared.rising.RisingLevels.{RisingLevels}
use Rattle.kc_insert.specs.Ranges.{Cut, IsCut, HasVertex, Part, part_at, part_of, range_of, Tell}
use Rattle.kc_insert.specs.private.Rising.{all_at, rises, seen}
use Rattle.kc_insert.specs.private.Watched.{count_at, is_few}

-- how many neighbours v counts
abbrev pub count_of : Cut → ℕ → ℕ
count_of r v = count_at (part_of r v).watch v

-- whether v counts more than `most`
abbrev pub is_over : (ℕ → ℕ) → ℕ → ℕ → Bool
is_over count most v = nat_lt most (count v)

-- the ranges, with `count` as the count of v
abbrev pub with_count : Cut → ℕ → ℕ → Cut
with_count r v count = record r { parts = set r.parts (range_of r.width v) (record (part_of r v) { watch = record (part_of r v).watch { counts = set (part_of r v).watch.counts (v - (part_of r v).watch.first) count } }) }

-- what `can` says holds of each range and its place
abbrev pub EachCan : (ℕ → Part → Type 0) → List Part → Type 0
EachCan can old = (j : ℕ) (d : Part) → j < length old → can j (get_or old j d)

-- what `did` says holds of each range and its place, unless memory ran out there
abbrev pub EachDid : (ℕ → Part → Part → Type 0) → List Part → List Part → Type 0
EachDid did old new = (j : ℕ) (d : Part) → j < length old → (get_or new j d).is_short ≡ false → did j (get_or old j d) (get_or new j d)

-- no range has steps, and all else is as before
abbrev pub HaveNoSteps : List Part → List Part → Type 0
HaveNoSteps old new = (length new ≡ length old) × ((j : ℕ) (d : Part) → j < length old → get_or new j d ≡ record (get_or old j d) { steps = 0 })

-- the vertices that stay on the level
abbrev pub all_stay : Cut → List ℕ
all_stay r = flat_map (λ (p : Part). p.stay) r.parts

-- the vertices that begin to rise from the level
abbrev pub all_begun : Cut → List ℕ
all_begun r = flat_map (λ (p : Part). p.begun) r.parts

-- how ranges keep which vertices rise. Each of them began and is kept by its range, and all that are kept rose. Each
-- that rises and counts few is on the watch list of its range. A range keeps and watches its own vertices alone.
pub record AreKept (levels : RisingLevels) (r : Cut) : Type 0 where
  pub began : (v : ℕ) → rises levels v ≡ true → has_number v (part_of r v).began ≡ true
  pub own : (j v : ℕ) → j < length r.parts → has_number v (part_at r j).began ≡ true → HasVertex (part_at r j).watch v
  pub risen : (j v : ℕ) → j < length r.parts → has_number v (part_at r j).began ≡ true → has_number v (part_at r j).risen ≡ true
  pub few : (v : ℕ) → rises levels v ≡ true → count_of r v ≤ (part_of r v).watch.most → has_number v (part_of r v).watch.doubtful ≡ true
  pub inside : (j v : ℕ) → j < length r.parts → has_number v (part_at r j).watch.doubtful ≡ true → HasVertex (part_at r j).watch v

-- what `Ranges::take_waiting` leaves: no vertex waits on the level
pub record TookWaiting (level : ℕ) (old new : List Part) : Type 0 where
  pub sized : length new ≡ length old
  pub each : (j : ℕ) (d : Part) → j < length old → get_or new j d ≡ record (get_or old j d) { queue = set (get_or old j d).queue level [] }

-- what `Ranges::let_stay` asks: each range watches vertices of its own alone, and each of them has a level
pub record CanLetStay (levels : RisingLevels) (old : List Part) : Type 0 where
  pub small : levels.level < 65535
  pub few : length (seen levels) ≤ 2 ^ 24
  pub inside : (j v : ℕ) (d : Part) → j < length old → has_number v (get_or old j d).watch.doubtful ≡ true → (v < length (seen levels)) × HasVertex (get_or old j d).watch v

-- what `Ranges::let_stay` leaves. The vertices that stay, each once, rise no more, since their counts are within the
-- limits of their ranges. All others of the watch lists that still rise count more. The watch lists are empty.
pub record AllLetStay (before after : RisingLevels) (old new : List Part) : Type 0 where
  pub on : after.level ≡ before.level
  pub levels : seen after ≡ seen before
  pub sized : length new ≡ length old
  pub each : (j : ℕ) (d : Part) → j < length old → get_or new j d ≡ record (get_or old j d) { watch = record (get_or old j d).watch { doubtful = [] }; stay = (get_or new j d).stay }
  pub rises_on : (v : ℕ) → rises after v ≡ (rises before v && not (has_number v (flat_map (λ (p : Part). p.stay) new)))
  pub stays : (j v : ℕ) (d : Part) → j < length old → has_number v (get_or new j d).stay ≡ true → (rises before v ≡ true) × (count_at (get_or old j d).watch v ≤ (get_or old j d).watch.most) × HasVertex (get_or old j d).watch v
  pub over : (j v : ℕ) (d : Part) → j < length old → has_number v (get_or old j d).watch.doubtful ≡ true → rises after v ≡ true → (get_or old j d).watch.most < count_at (get_or old j d).watch v
  pub distinct : AreDistinct (flat_map (λ (p : Part). p.stay) new)

-- what `Ranges::lift_off` asks: the sweep is at the next level, all the vertices are on the level and in ranges, and
-- none has begun
pub record CanLiftOff (level : ℕ) (levels : RisingLevels) (vertices : List ℕ) (width : ℕ) (old : List Part) : Type 0 where
  pub at : levels.level ≡ level + 1
  pub below : (v : ℕ) → has_number v vertices ≡ true → v < length (seen levels)
  pub here : (v : ℕ) → has_number v vertices ≡ true → get_or (seen levels) v 0 ≡ level
  pub place : (v : ℕ) → has_number v vertices ≡ true → range_of width v < length old
  pub none : (j : ℕ) (d : Part) → j < length old → (get_or old j d).begun ≡ []

-- what `Ranges::lift_off` leaves: the vertices of the list have begun, each once and in its own range, and are on the
-- next level
pub record LiftedOff (level : ℕ) (before after : RisingLevels) (vertices : List ℕ) (width : ℕ) (old new : List Part) : Type 0 where
  pub on : after.level ≡ before.level
  pub levels : seen after ≡ all_at (seen before) (flat_map (λ (p : Part). p.begun) new) (level + 1)
  pub rising : (v : ℕ) → rises after v ≡ (rises before v || has_number v (flat_map (λ (p : Part). p.begun) new))
  pub sized : length new ≡ length old
  pub each : (j : ℕ) (d : Part) → j < length old → get_or new j d ≡ record (get_or old j d) { begun = (get_or new j d).begun }
  pub own : (j v : ℕ) (d : Part) → j < length old → has_number v (get_or new j d).begun ≡ true → range_of width v ≡ j
  pub begun : (v : ℕ) → has_number v (flat_map (λ (p : Part). p.begun) new) ≡ has_number v vertices
  pub distinct : AreDistinct (flat_map (λ (p : Part). p.begun) new)

-- what `Ranges::look_anew` asks: each range keeps vertices of its own alone, and each of them has a level
pub record CanLookAnew (levels : RisingLevels) (old : List Part) : Type 0 where
  pub inside : (j v : ℕ) (d : Part) → j < length old → has_number v (get_or old j d).began ≡ true → (v < length (seen levels)) × HasVertex (get_or old j d).watch v

-- the range, with this limit, keeps the vertices alone that rise, and watches those of them that count few
abbrev pub looked_anew : RisingLevels → ℕ → Part → List ℕ → Part
looked_anew levels most p stay = record p { watch = record p.watch { most = most; doubtful = filter (is_few p.watch most) (filter (rises levels) p.began) }; began = filter (rises levels) p.began; stay = stay }

-- the range has the limit; if it had another before it looked anew at all that rise
abbrev pub LooksAnew : RisingLevels → ℕ → Part → Part → Type 0
LooksAnew levels most old new = ((most ≡ old.watch.most) × (new ≡ old)) ⊎ (new ≡ looked_anew levels most old new.stay)

-- what `Ranges::look_anew` leaves
pub record LookedAnew (levels : RisingLevels) (most : ℕ) (old new : List Part) : Type 0 where
  pub sized : length new ≡ length old
  pub each : (j : ℕ) (d : Part) → j < length old → LooksAnew levels most (get_or old j d) (get_or new j d)

-- but for what the vertices count, and which of them wait, all is as before
pub record IsSameCut (old new : Cut) : Type 0 where
  pub width : new.width ≡ old.width
  pub told : new.told ≡ old.told
  pub sized : length new.parts ≡ length old.parts
  pub each : (j : ℕ) (d : Part) → j < length old.parts → get_or new.parts j d ≡ record (get_or old.parts j d) { watch = record (get_or old.parts j d).watch { counts = (get_or new.parts j d).watch.counts }; queue = (get_or new.parts j d).queue }
  pub counts : (j : ℕ) (d : Part) → j < length old.parts → length (get_or new.parts j d).watch.counts ≡ length (get_or old.parts j d).watch.counts
  pub queues : (j : ℕ) (d : Part) → j < length old.parts → length (get_or new.parts j d).queue ≡ length (get_or old.parts j d).queue

-- a range of vertices from `first` on, with these counts, of which none rises or waits
abbrev pub new_part : ℕ → ℕ → ℕ → List ℕ → Part
new_part levels ranges first counts = record { watch = record { first = first; counts = counts; most = 0; doubtful = [] }; queue = replicate levels []; meetings = replicate levels []; began = []; risen = []; stay = []; begun = []; tell = record { all = []; lists = replicate ranges [] }; steps = 0; is_short = false }

-- what `Ranges::new` leaves: the vertices, with these counts, are cut, and none of them rises or waits
pub record AreNew (width : ℕ) (counts : List ℕ) (levels : ℕ) (new : Cut) : Type 0 where
  pub shape : new.width ≡ width
  pub cut : IsCut (length counts) levels new
  pub counted : (v : ℕ) → v < length counts → count_of new v ≡ get_or counts v 0
  pub each : (j : ℕ) (d : Part) → j < length new.parts → get_or new.parts j d ≡ new_part levels (length new.parts) (get_or new.parts j d).watch.first (get_or new.parts j d).watch.counts

-- there are lists to tell n ranges for each of them
pub record AreToldAll (n : ℕ) (told : List Tell) : Type 0 where
  pub long : length told ≡ n
  pub lists : (j : ℕ) (d : Tell) → j < n → length (get_or told j d).lists ≡ n

-- the range without what a phase leaves in it
abbrev pub forgotten : Part → Part
forgotten p = record p { began = []; risen = []; queue = replicate (length p.queue) []; meetings = replicate (length p.meetings) [] }

-- what `Ranges::forget` leaves: nothing of the phase
pub record Forgot (old new : Cut) : Type 0 where
  pub width : new.width ≡ old.width
  pub told : new.told ≡ old.told
  pub sized : length new.parts ≡ length old.parts
  pub each : (j : ℕ) (d : Part) → j < length old.parts → get_or new.parts j d ≡ forgotten (get_or old.parts j d)
