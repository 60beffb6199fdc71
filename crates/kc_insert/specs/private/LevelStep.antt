-- The step of a sweep from its level to the next.
use Rattle.std.specs.Prelude.{ℕ, ◌+◌, ◌≤◌, ◌<◌, ◌≡◌, ◌≢◌, ◌⊎◌, ◌||◌, ◌&&◌, not, true, List, [], length, get_or}
use Rattle.kc_graph.specs.Numbers.{has_number}
use Rattle.kc_graph.specs.Shape.{GraphShape, has_edge}
use Rattle.kc_levels.specs.declared.profile.Profile.{Profile}
use Rattle.kc_levels.specs.Following.{AreDistinct}
use Rattle.kc_levels.specs.LevelList.{IsRaised}
use Rattle.kc_levels.specs.Thresholds.{group_of, high, top_level}
use Rattle.kc_insert.specs.declared.rising.RisingLevels.{RisingLevels}
use Rattle.kc_insert.specs.declared.scaled.Scaled.{Scaled}
use Rattle.kc_insert.specs.declared.sweep.Sweep.{Sweep}
use Rattle.kc_insert.specs.private.Meetings.{AreApart, IsMeeting}
use Rattle.kc_insert.specs.private.Ranges.{AreKept, count_of}
use Rattle.kc_insert.specs.Ranges.{Cut, IsCut, HasVertex, part_at}
use Rattle.kc_insert.specs.private.Rising.{seen}
use Rattle.kc_insert.specs.private.Sweeping.{AreCounted, HaveMoved, IsPaid, IsSweeping, LiftsArePaid, Sweeping, sweeping_of}

-- The step from the levels y to z. Each vertex on the level l that counts more than `most` goes to the next level, and
-- no other vertex moves. The counts are c before and d afterwards.
pub record IsLevelStep (g : GraphShape) (y z : List ℕ) (c d : ℕ → ℕ) (l most : ℕ) : Type 0 where
  pub sized : length z ≡ length y
  pub goes : (v : ℕ) → v < g.vertices → get_or y v 0 ≡ l → most < c v → get_or z v 0 ≡ l + 1
  pub stays : (v : ℕ) → v < g.vertices → get_or y v 0 ≡ l → c v ≤ most → get_or z v 0 ≡ l
  pub others : (v : ℕ) → get_or y v 0 ≢ l → get_or z v 0 ≡ get_or y v 0
  pub counted : AreCounted g z d

-- the vertices that rise afterwards are all that go to the next level
pub record AreLifted (g : GraphShape) (s t : Sweeping) (most : ℕ) : Type 0 where
  pub rise : (v : ℕ) → has_number v t.rising ≡ true → (v < g.vertices) × (get_or s.levels v 0 ≡ s.level) × (most < s.count v)
  pub all : (v : ℕ) → v < g.vertices → get_or s.levels v 0 ≡ s.level → most < s.count v → has_number v t.rising ≡ true
  pub distinct : AreDistinct t.rising
  pub risen : (v : ℕ) → has_number v t.risen ≡ (has_number v s.risen || has_number v t.rising)
  pub once : AreDistinct t.risen

-- Vertices that wait on other levels wait still. On the next level each vertex waits whose count rose above `above`.
-- All others that wait there stood there by x.
pub record WaitOn (g : GraphShape) (x : List ℕ) (s t : Sweeping) (above : ℕ) : Type 0 where
  pub still : (k v : ℕ) → k ≢ s.level → has_number v (s.waits k) ≡ true → has_number v (t.waits k) ≡ true
  pub only : (k v : ℕ) → s.level < k → has_number v (t.waits k) ≡ true → (has_number v (s.waits k) ≡ true) ⊎ ((v < g.vertices) × (get_or x v 0 ≡ k))
  pub noted : (v : ℕ) → v < g.vertices → get_or x v 0 ≡ s.level + 1 → above < t.count v → (above < s.count v) ⊎ (has_number v (t.waits (s.level + 1)) ≡ true)

-- above the level are the meetings that were there, and those of the vertices that begin to rise from it
pub record MeetOn (g : GraphShape) (x : List ℕ) (s t : Sweeping) : Type 0 where
  pub still : (k v w : ℕ) → s.level < k → has_edge (v, w) (s.meets k) ≡ true → has_edge (v, w) (t.meets k) ≡ true
  pub only : (k v w : ℕ) → s.level < k → has_edge (v, w) (t.meets k) ≡ true → (has_edge (v, w) (s.meets k) ≡ true) ⊎ ((has_number v t.rising ≡ true) × IsMeeting g x k v w)
  pub each : (k v w : ℕ) → s.level < k → has_number v t.rising ≡ true → get_or x v 0 ≡ s.level → IsMeeting g x k v w → has_edge (v, w) (t.meets k) ≡ true
  pub apart : (k : ℕ) → s.level < k → AreApart (t.meets k)

-- what the step leaves of a sweep that began with the levels x
pub record HasStepped (g : GraphShape) (x : List ℕ) (s t : Sweeping) (most above : ℕ) : Type 0 where
  pub level : t.level ≡ s.level + 1
  pub step : IsLevelStep g s.levels t.levels s.count t.count s.level most
  pub lifted : AreLifted g s t most
  pub waiting : WaitOn g x s t above
  pub meeting : MeetOn g x s t

-- the vertices that stay on the level and those that begin there, each once
pub record ArePassed (s t : Sweeping) (stay begun : List ℕ) : Type 0 where
  pub stays : (v : ℕ) → has_number v stay ≡ (has_number v s.rising && not (has_number v t.rising))
  pub begins : (v : ℕ) → has_number v begun ≡ (has_number v t.rising && not (has_number v s.rising))
  pub stay_once : AreDistinct stay
  pub begun_once : AreDistinct begun

-- all ranges have the limit
abbrev pub HasLimit : ℕ → Cut → Type 0
HasLimit most r = (j : ℕ) → j < length r.parts → (part_at r j).watch.most ≡ most

-- Between steps the range of a rising vertex keeps its meetings. No vertices that begin and no steps are left.
pub record AreAtRest (r : Cut) : Type 0 where
  pub own : (j k v w : ℕ) → j < length r.parts → has_edge (v, w) (get_or (part_at r j).meetings k []) ≡ true → HasVertex (part_at r j).watch v
  pub begun : (j : ℕ) → j < length r.parts → (part_at r j).begun ≡ []
  pub steps : (j : ℕ) → j < length r.parts → (part_at r j).steps ≡ 0

-- between steps the ranges have the vertices of the graph, a list for each level, and the vertices that rise
pub record AreInOrder (p : Profile) (g : GraphShape) (s : RisingLevels) (r : Cut) : Type 0 where
  pub shape : IsCut g.vertices (top_level p g.vertices + 1) r
  pub kept : AreKept s r
  pub rest : AreAtRest r

-- a sweep on its way over the graph, with the levels that it began with
pub record IsUnderWay (p : Profile) (g : GraphShape) (s : RisingLevels) (r : Cut) : Type 0 where
  pub start : List ℕ
  pub order : AreInOrder p g s r
  pub sweeping : IsSweeping p g start (sweeping_of s r)

-- a sweep that began with the levels x when `first` steps were counted, now that `now` are
pub record IsRunning (p : Profile) (g : GraphShape) (x : List ℕ) (first now : ℕ) (s : RisingLevels) (r : Cut) : Type 0 where
  pub order : AreInOrder p g s r
  pub sweeping : IsSweeping p g x (sweeping_of s r)
  pub paid : IsPaid g x (sweeping_of s r) first now

-- the top level
abbrev pub top_of : Scaled → ℕ
top_of s = top_level s.th.now.profile s.th.now.vertices

-- how many neighbours the group of the sweep's level allows
abbrev pub most_at : Scaled → Sweep → ℕ
most_at s w = high s.th.now.profile (group_of s.th.now.profile s.th.now.vertices w.levels.level)

-- the step of a sweep from its level to the next, where each vertex goes that counts more than the group allows
abbrev pub StepsUp : Scaled → Sweep → Sweep → Type 0
StepsUp s old new = IsLevelStep s.graph.now (seen old.levels) (seen new.levels) (count_of old.ranges) (count_of new.ranges) old.levels.level (most_at s old)

-- whatever a sweep began with, it is still on its way when `before` steps have become `after`
abbrev pub StaysRunning : Scaled → ℕ → ℕ → Sweep → Sweep → Type 0
StaysRunning s before after old new = (x : List ℕ) (first : ℕ) → IsRunning s.th.now.profile s.graph.now x first before old.levels old.ranges → IsRunning s.th.now.profile s.graph.now x first after new.levels new.ranges

-- what `raise_queued` leaves of a sweep that began with the levels x; the steps were `first` before and are `now`
pub record HasSwept (s : Scaled) (x : List ℕ) (first now : ℕ) (new : Sweep) : Type 0 where
  pub raised : IsRaised s.th.now.profile s.graph.now x new.levels.stored
  pub counted : AreCounted s.graph.now new.levels.stored (count_of new.ranges)
  pub moved : HaveMoved x new.levels.stored new.ranges
  pub order : AreInOrder s.th.now.profile s.graph.now new.levels new.ranges
  pub paid : LiftsArePaid s.graph.now x new.levels.stored new.ranges first now
