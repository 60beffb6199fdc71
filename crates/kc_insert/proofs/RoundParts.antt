-- A step of a sweep, call by call: what each leaves of a range.
use Rattle.std.proofs.Common.{ℕ, ◌+◌, ◌<◌, ◌≡◌, Bool, List, [], ◌++◌, length, get_or, set, filter, ap, ◌∙◌, arith}
use Rattle.std.specs.List.{flat_map}
use Rattle.kc_graph.specs.Numbers.{has_number}
use Rattle.kc_graph.specs.Shape.{GraphShape}
use Rattle.kc_adj.specs.Degrees.{degrees}
use Rattle.kc_insert.specs.declared.rising.RisingLevels.{RisingLevels}
use Rattle.kc_insert.specs.private.Crossing.{Crossing}
use Rattle.kc_insert.specs.private.Parts.{HasRisen, HaveMet}
use Rattle.kc_insert.specs.Ranges.{HasVertex, no_part, Part, range_of, Tell, Watch}
use Rattle.kc_insert.specs.private.Ranges.{AllLetStay, is_over, LiftedOff, TookWaiting}
use Rattle.kc_insert.specs.private.Rising.{all_at, rises, seen}
use Rattle.kc_insert.specs.private.Sharing.{AllParted, AllRisen, rise_told, RisesAndHears}
use Rattle.kc_insert.specs.private.Telling.{in_range}
use Rattle.kc_insert.specs.private.Watched.{count_at, StayWatched}

-- the range at a place
abbrev pub at_place : List Part → ℕ → Part
at_place ps j = get_or ps j no_part

-- the range of v
abbrev pub place_of : ℕ → List Part → ℕ → Part
place_of width ps v = get_or ps (range_of width v) no_part

-- how many neighbours v counts
abbrev pub count_in : ℕ → List Part → ℕ → ℕ
count_in width ps v = count_at (place_of width ps v).watch v

-- the lists of all ranges one after another
abbrev pub stay_in : List Part → List ℕ
stay_in ps = flat_map (λ (q : Part). q.stay) ps

abbrev pub begun_in : List Part → List ℕ
begun_in ps = flat_map (λ (q : Part). q.begun) ps

abbrev pub waits_in : ℕ → List Part → List ℕ
waits_in k ps = flat_map (λ (q : Part). get_or q.queue k []) ps

-- a step from the level l
abbrev pub step_at : GraphShape → RisingLevels → ℕ → ℕ → Bool → Crossing
step_at g s width l dealt = record { graph = g; levels = s; width = width; level = l; is_dealt = dealt }

-- the levels during a step: before it, once vertices stopped, once the others are on the next level, and once vertices began
pub record LevelStages : Type 0 where
  pub old : RisingLevels
  pub stopped : RisingLevels
  pub next : RisingLevels
  pub lifted : RisingLevels

-- the ranges during a step: before it, once the waiting vertices are taken out, once vertices stopped, once the others
-- heard of that, once vertices began, and once all rose
pub record PartStages : Type 0 where
  pub old : List Part
  pub taken : List Part
  pub stopped : List Part
  pub parted : List Part
  pub lifted : List Part
  pub risen : List Part

-- A step of a sweep, call by call: the levels and the ranges, what was told before and afterwards, the vertices that
-- begin, and whether each of the two passes deals what it tells.
pub record Passage : Type 0 where
  pub width : ℕ
  pub level_count : ℕ
  pub most : ℕ
  pub above : ℕ
  pub levels : LevelStages
  pub parts : PartStages
  pub old_told : List Tell
  pub new_told : List Tell
  pub starting : List ℕ
  pub less : Bool
  pub more : Bool

-- what the calls of a step leave, one after another, up to the last: the waiting vertices are taken out, and those of them that count
-- too many are `starting`; some vertices stay; the others hear of it; all that rise go to the next level; those in `starting` begin
pub record HasLifted (g : GraphShape) (r : Passage) : Type 0 where
  pub took : TookWaiting r.levels.old.level r.parts.old r.parts.taken
  pub movers : r.starting ≡ filter (is_over (count_in r.width r.parts.taken) r.most) (waits_in r.levels.old.level r.parts.old)
  pub stopped : AllLetStay r.levels.old r.levels.stopped r.parts.taken r.parts.stopped
  pub parted : AllParted (step_at g r.levels.stopped r.width r.levels.old.level r.less) r.parts.stopped r.parts.parted
  pub gone : (risers : List ℕ) → ((v : ℕ) → rises r.levels.stopped v ≡ has_number v risers) → seen r.levels.next ≡ all_at (seen r.levels.stopped) risers (r.levels.old.level + 1)
  pub next : (r.levels.next.level ≡ r.levels.old.level + 1) × ((v : ℕ) → rises r.levels.next v ≡ rises r.levels.stopped v)
  pub lifted : LiftedOff r.levels.old.level r.levels.next r.levels.lifted r.starting r.width r.parts.parted r.parts.lifted

-- the same with the last call: all ranges rise
pub record HasPassed (g : GraphShape) (r : Passage) : Type 0 where
  pub before : HasLifted g r
  pub risen : AllRisen (step_at g r.levels.lifted r.width r.levels.old.level r.more) r.above r.parts.lifted r.parts.risen

module _ (g : GraphShape) (r : Passage) (h : HasLifted g r) where
  pub long_taken : length r.parts.taken ≡ length r.parts.old
  long_taken = h.took.sized

  pub long_stopped : length r.parts.stopped ≡ length r.parts.old
  long_stopped = h.stopped.sized ∙ long_taken

  pub long_parted : length r.parts.parted ≡ length r.parts.old
  long_parted = h.parted.sized ∙ long_stopped

  pub long_lifted : length r.parts.lifted ≡ length r.parts.old
  long_lifted = h.lifted.sized ∙ long_parted

  module _ (j : ℕ) (at : j < length r.parts.old) where
    pub took_at : at_place r.parts.taken j ≡ record (at_place r.parts.old j) { queue = set (at_place r.parts.old j).queue r.levels.old.level [] }
    took_at = h.took.each j no_part at

    pub stopped_at : at_place r.parts.stopped j ≡ record (at_place r.parts.taken j) { watch = record (at_place r.parts.taken j).watch { doubtful = [] }; stay = (at_place r.parts.stopped j).stay }
    stopped_at = h.stopped.each j no_part (omega (arith, at, long_taken))

    pub parted_at : at_place r.parts.parted j ≡ record (at_place r.parts.stopped j) { watch = (at_place r.parts.parted j).watch; tell = (at_place r.parts.parted j).tell; steps = (at_place r.parts.stopped j).steps + degrees g (at_place r.parts.stopped j).stay }
    parted_at = h.parted.part j no_part (omega (arith, at, long_stopped))

    pub lifted_at : at_place r.parts.lifted j ≡ record (at_place r.parts.parted j) { begun = (at_place r.parts.lifted j).begun }
    lifted_at = h.lifted.each j no_part (omega (arith, at, long_parted))

    -- watches
    pub watch_stopped : (at_place r.parts.stopped j).watch ≡ record (at_place r.parts.old j).watch { doubtful = [] }
    watch_stopped = ap (λ (q : Part). q.watch) stopped_at ∙ ap (λ (q : Part). record q.watch { doubtful = [] }) took_at

    pub watch_taken : (at_place r.parts.taken j).watch ≡ (at_place r.parts.old j).watch
    watch_taken = ap (λ (q : Part). q.watch) took_at

    pub watched_parted : StayWatched (at_place r.parts.stopped j).watch (at_place r.parts.parted j).watch
    watched_parted = h.parted.watched j no_part (omega (arith, at, long_stopped))

    pub watch_lifted : (at_place r.parts.lifted j).watch ≡ (at_place r.parts.parted j).watch
    watch_lifted = ap (λ (q : Part). q.watch) lifted_at

    -- first vertices, numbers of vertices and limits
    pub first_stopped : (at_place r.parts.stopped j).watch.first ≡ (at_place r.parts.old j).watch.first
    first_stopped = ap (λ (w : Watch). w.first) watch_stopped

    pub first_lifted : (at_place r.parts.lifted j).watch.first ≡ (at_place r.parts.old j).watch.first
    first_lifted = ap (λ (w : Watch). w.first) watch_lifted ∙ watched_parted.first ∙ first_stopped

    pub sized_stopped : length (at_place r.parts.stopped j).watch.counts ≡ length (at_place r.parts.old j).watch.counts
    sized_stopped = ap (λ (w : Watch). length w.counts) watch_stopped

    pub sized_lifted : length (at_place r.parts.lifted j).watch.counts ≡ length (at_place r.parts.old j).watch.counts
    sized_lifted = ap (λ (w : Watch). length w.counts) watch_lifted ∙ watched_parted.sized ∙ sized_stopped

    pub most_stopped : (at_place r.parts.stopped j).watch.most ≡ (at_place r.parts.old j).watch.most
    most_stopped = ap (λ (w : Watch). w.most) watch_stopped

    pub most_lifted : (at_place r.parts.lifted j).watch.most ≡ (at_place r.parts.old j).watch.most
    most_lifted = ap (λ (w : Watch). w.most) watch_lifted ∙ watched_parted.most ∙ most_stopped

    -- the vertices of the range
    pub held_stopped : (v : ℕ) → HasVertex (at_place r.parts.old j).watch v → HasVertex (at_place r.parts.stopped j).watch v
    held_stopped v was = record { from = omega (arith, was.from, first_stopped); below = omega (arith, was.below, first_stopped, sized_stopped) }

    pub held_lifted : (v : ℕ) → HasVertex (at_place r.parts.old j).watch v → HasVertex (at_place r.parts.lifted j).watch v
    held_lifted v was = record { from = omega (arith, was.from, first_lifted); below = omega (arith, was.below, first_lifted, sized_lifted) }

    pub held_back_stopped : (v : ℕ) → HasVertex (at_place r.parts.stopped j).watch v → HasVertex (at_place r.parts.old j).watch v
    held_back_stopped v is = record { from = omega (arith, is.from, first_stopped); below = omega (arith, is.below, first_stopped, sized_stopped) }

    pub held_back_lifted : (v : ℕ) → HasVertex (at_place r.parts.lifted j).watch v → HasVertex (at_place r.parts.old j).watch v
    held_back_lifted v is = record { from = omega (arith, is.from, first_lifted); below = omega (arith, is.below, first_lifted, sized_lifted) }

    -- lists
    pub meetings_lifted : (at_place r.parts.lifted j).meetings ≡ (at_place r.parts.old j).meetings
    meetings_lifted = ap (λ (q : Part). q.meetings) lifted_at ∙ ap (λ (q : Part). q.meetings) parted_at ∙ ap (λ (q : Part). q.meetings) stopped_at ∙ ap (λ (q : Part). q.meetings) took_at

    pub queue_lifted : (at_place r.parts.lifted j).queue ≡ set (at_place r.parts.old j).queue r.levels.old.level []
    queue_lifted = ap (λ (q : Part). q.queue) lifted_at ∙ ap (λ (q : Part). q.queue) parted_at ∙ ap (λ (q : Part). q.queue) stopped_at ∙ ap (λ (q : Part). q.queue) took_at

    pub began_lifted : (at_place r.parts.lifted j).began ≡ (at_place r.parts.old j).began
    began_lifted = ap (λ (q : Part). q.began) lifted_at ∙ ap (λ (q : Part). q.began) parted_at ∙ ap (λ (q : Part). q.began) stopped_at ∙ ap (λ (q : Part). q.began) took_at

    pub risen_lifted : (at_place r.parts.lifted j).risen ≡ (at_place r.parts.old j).risen
    risen_lifted = ap (λ (q : Part). q.risen) lifted_at ∙ ap (λ (q : Part). q.risen) parted_at ∙ ap (λ (q : Part). q.risen) stopped_at ∙ ap (λ (q : Part). q.risen) took_at

    pub steps_lifted : (at_place r.parts.lifted j).steps ≡ (at_place r.parts.old j).steps + degrees g (at_place r.parts.stopped j).stay
    steps_lifted = ap (λ (q : Part). q.steps) lifted_at ∙ ap (λ (q : Part). q.steps) parted_at ∙ ap (λ n. n + degrees g (at_place r.parts.stopped j).stay) (ap (λ (q : Part). q.steps) stopped_at ∙ ap (λ (q : Part). q.steps) took_at)

module _ (g : GraphShape) (r : Passage) (h : HasPassed g r) where
  pub long_risen : length r.parts.risen ≡ length r.parts.old
  long_risen = h.risen.sized ∙ long_lifted g r h.before

  module _ (j : ℕ) (at : j < length r.parts.old) where
    pub risen_at : RisesAndHears (step_at g r.levels.lifted r.width r.levels.old.level r.more) r.above (in_range r.width j (rise_told (step_at g r.levels.lifted r.width r.levels.old.level r.more) r.parts.lifted)) (at_place r.parts.lifted j) (at_place r.parts.risen j)
    risen_at = h.risen.each j no_part (omega (arith, at, long_lifted g r h.before))

    abbrev pub mid : Part
    mid = risen_at.mid

    pub rose_at : HasRisen (step_at g r.levels.lifted r.width r.levels.old.level r.more) (at_place r.parts.lifted j) mid
    rose_at = risen_at.risen

    pub met_at : HaveMet (r.levels.old.level + 1) r.above (in_range r.width j (rise_told (step_at g r.levels.lifted r.width r.levels.old.level r.more) r.parts.lifted)) (record mid { tell = (at_place r.parts.risen j).tell }) (at_place r.parts.risen j)
    met_at = risen_at.met

    pub watched_mid : StayWatched (at_place r.parts.lifted j).watch mid.watch
    watched_mid = rose_at.risen.watched

    pub watch_risen : (at_place r.parts.risen j).watch ≡ record mid.watch { counts = (at_place r.parts.risen j).watch.counts }
    watch_risen = ap (λ (q : Part). q.watch) met_at.part

    pub first_mid : mid.watch.first ≡ (at_place r.parts.old j).watch.first
    first_mid = watched_mid.first ∙ first_lifted g r h.before j at

    pub first_risen : (at_place r.parts.risen j).watch.first ≡ (at_place r.parts.old j).watch.first
    first_risen = ap (λ (w : Watch). w.first) watch_risen ∙ first_mid

    pub sized_mid : length mid.watch.counts ≡ length (at_place r.parts.old j).watch.counts
    sized_mid = watched_mid.sized ∙ sized_lifted g r h.before j at

    pub sized_risen : length (at_place r.parts.risen j).watch.counts ≡ length (at_place r.parts.old j).watch.counts
    sized_risen = met_at.sized ∙ sized_mid

    pub most_risen : (at_place r.parts.risen j).watch.most ≡ (at_place r.parts.old j).watch.most
    most_risen = ap (λ (w : Watch). w.most) watch_risen ∙ watched_mid.most ∙ most_lifted g r h.before j at

    pub held_mid : (v : ℕ) → HasVertex (at_place r.parts.old j).watch v → HasVertex mid.watch v
    held_mid v was = record { from = omega (arith, was.from, first_mid); below = omega (arith, was.below, first_mid, sized_mid) }

    pub held_risen : (v : ℕ) → HasVertex (at_place r.parts.old j).watch v → HasVertex (at_place r.parts.risen j).watch v
    held_risen v was = record { from = omega (arith, was.from, first_risen); below = omega (arith, was.below, first_risen, sized_risen) }

    pub held_back_risen : (v : ℕ) → HasVertex (at_place r.parts.risen j).watch v → HasVertex (at_place r.parts.old j).watch v
    held_back_risen v is = record { from = omega (arith, is.from, first_risen); below = omega (arith, is.below, first_risen, sized_risen) }

    pub meetings_risen : (at_place r.parts.risen j).meetings ≡ mid.meetings
    meetings_risen = ap (λ (q : Part). q.meetings) met_at.part

    pub queue_mid : mid.queue ≡ set (at_place r.parts.old j).queue r.levels.old.level []
    queue_mid = ap (λ (q : Part). q.queue) rose_at.part ∙ queue_lifted g r h.before j at

    pub began_risen : (at_place r.parts.risen j).began ≡ (at_place r.parts.lifted j).began ++ (at_place r.parts.lifted j).begun
    began_risen = ap (λ (q : Part). q.began) met_at.part ∙ ap (λ (q : Part). q.began) rose_at.part

    pub risen_all : (at_place r.parts.risen j).risen ≡ (at_place r.parts.lifted j).risen ++ (at_place r.parts.lifted j).begun
    risen_all = ap (λ (q : Part). q.risen) met_at.part ∙ ap (λ (q : Part). q.risen) rose_at.part

    pub begun_risen : (at_place r.parts.risen j).begun ≡ []
    begun_risen = ap (λ (q : Part). q.begun) met_at.part ∙ ap (λ (q : Part). q.begun) rose_at.part

    pub steps_risen : (at_place r.parts.risen j).steps ≡ ((at_place r.parts.old j).steps + degrees g (at_place r.parts.stopped j).stay) + degrees g (at_place r.parts.lifted j).begun
    steps_risen = ap (λ (q : Part). q.steps) met_at.part ∙ ap (λ (q : Part). q.steps) rose_at.part ∙ ap (λ n. n + degrees g (at_place r.parts.lifted j).begun) (steps_lifted g r h.before j at)
