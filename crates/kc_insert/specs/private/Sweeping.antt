-- How far a sweep has come, level by level.
--
-- A sweep that began with the levels x is at one level, on which all rising vertices are. Below it no vertex breaks the
-- upper invariant. On it and above, each vertex that doesn't rise stands where it stood in x.
use Rattle.std.specs.Prelude.{ℕ, ◌+◌, ◌≤◌, ◌<◌, ◌≡◌, ◌⊎◌, true, false, List, [], length, get_or, filter}
use Rattle.kc_graph.specs.Numbers.{has_number}
use Rattle.kc_graph.specs.Shape.{GraphShape, Pair, has_edge}
use Rattle.kc_levels.specs.declared.profile.Profile.{Profile}
use Rattle.kc_levels.specs.Following.{AreDistinct}
use Rattle.kc_levels.specs.LevelList.{at_least, IsCapped, MeetsUpper}
use Rattle.kc_levels.specs.Moved.{is_moved}
use Rattle.kc_levels.specs.private.LevelList.{IsRaising}
use Rattle.kc_adj.specs.Degrees.{degrees}
use Rattle.kc_insert.specs.Effort.{effort}
use Rattle.kc_insert.specs.declared.rising.RisingLevels.{RisingLevels}
use Rattle.kc_insert.specs.private.Meetings.{AreApart, IsMeeting}
use Rattle.kc_insert.specs.private.Ranges.{count_of}
use Rattle.kc_insert.specs.Ranges.{all_began, all_risen, AreQuiet, Cut, meets, waits}
use Rattle.kc_insert.specs.private.Rising.{all_at, rises, seen}

-- A sweep on its way: the level that it is at, the levels by now, and the count of each vertex. `rising` has the
-- vertices that rise, and `risen` all that rose. `waits` gives the vertices that wait on a level, and `meets` the
-- meetings there.
pub record Sweeping : Type 0 where
  pub level : ℕ
  pub levels : List ℕ
  pub count : ℕ → ℕ
  pub rising : List ℕ
  pub risen : List ℕ
  pub waits : ℕ → List ℕ
  pub meets : ℕ → List Pair

-- the sweep that levels and ranges stand for
abbrev pub sweeping_of : RisingLevels → Cut → Sweeping
sweeping_of s r = record { level = s.level; levels = seen s; count = count_of r; rising = filter (rises s) (all_began r); risen = all_risen r; waits = waits r; meets = meets r }

-- each vertex counts its neighbours on its level or above
abbrev pub AreCounted : GraphShape → List ℕ → (ℕ → ℕ) → Type 0
AreCounted g y count = (v : ℕ) → v < g.vertices → count v ≡ at_least g y v (get_or y v 0)

-- v rises, or waits on its level, which is that of the sweep or above
abbrev pub IsAwaited : Sweeping → ℕ → Type 0
IsAwaited s v = (has_number v s.rising ≡ true) ⊎ ((s.level ≤ get_or s.levels v 0) × (has_number v (s.waits (get_or s.levels v 0)) ≡ true))

-- The levels lie between x and each list that is raisable from it. On the level of the sweep or above, only rising
-- vertices have moved.
pub record IsPlaced (p : Profile) (g : GraphShape) (x : List ℕ) (s : Sweeping) : Type 0 where
  pub start : length x ≡ g.vertices
  pub raising : IsRaising p g x s.levels
  pub stood : (v : ℕ) → s.level ≤ get_or s.levels v 0 → has_number v s.rising ≡ false → get_or s.levels v 0 ≡ get_or x v 0

-- the vertices that rise are on the level of the sweep, and stood below; the vertices that rose are those that moved
pub record AreRising (g : GraphShape) (x : List ℕ) (s : Sweeping) : Type 0 where
  pub came : (v : ℕ) → has_number v s.rising ≡ true → (v < g.vertices) × (get_or s.levels v 0 ≡ s.level) × (get_or x v 0 < s.level)
  pub distinct : AreDistinct s.rising
  pub moved : (v : ℕ) → has_number v s.risen ≡ is_moved x s.levels v
  pub once : AreDistinct s.risen

-- From the level of the sweep on, vertices wait where they stood, and the meetings are those of the vertices that rose,
-- each once. A vertex that neither rises nor waits meets the upper invariant.
pub record AreAwaited (p : Profile) (g : GraphShape) (x : List ℕ) (s : Sweeping) : Type 0 where
  pub counted : AreCounted g s.levels s.count
  pub waiting : (k v : ℕ) → s.level ≤ k → has_number v (s.waits k) ≡ true → (v < g.vertices) × (get_or x v 0 ≡ k)
  pub found : (v : ℕ) → v < g.vertices → MeetsUpper p g s.levels v ⊎ IsAwaited s v
  pub met : (k v w : ℕ) → s.level ≤ k → has_edge (v, w) (s.meets k) ≡ true → (has_number v s.risen ≡ true) × IsMeeting g x k v w
  pub each : (k v w : ℕ) → s.level ≤ k → has_number v s.risen ≡ true → IsMeeting g x k v w → has_edge (v, w) (s.meets k) ≡ true
  pub apart : (k : ℕ) → s.level ≤ k → AreApart (s.meets k)

-- a sweep that began with the levels x
pub record IsSweeping (p : Profile) (g : GraphShape) (x : List ℕ) (s : Sweeping) : Type 0 where
  pub placed : IsPlaced p g x s
  pub rise : AreRising g x s
  pub awaited : AreAwaited p g x s

-- Enough steps are left for the passes to come: one over the neighbours of each rising vertex, for when it stays. Each
-- vertex that rose costs another pass and one step more, for when it is lifted in the graph.
abbrev pub IsPaid : GraphShape → List ℕ → Sweeping → ℕ → ℕ → Type 0
IsPaid g x s first now = now + (degrees g s.rising + (degrees g s.risen + length s.risen)) ≤ first + effort g x s.levels g.vertices

-- each vertex that waits is on its level by x, and each that doesn't meets the upper invariant
pub record IsQueued (p : Profile) (g : GraphShape) (x : List ℕ) (waits : ℕ → List ℕ) : Type 0 where
  pub waiting : (k v : ℕ) → has_number v (waits k) ≡ true → (v < g.vertices) × (get_or x v 0 ≡ k)
  pub found : (v : ℕ) → v < g.vertices → (has_number v (waits (get_or x v 0)) ≡ true) ⊎ MeetsUpper p g x v

-- The graph has these levels, none of them above the top, and the ranges have its counts. No vertex rises, and each
-- that breaks the upper invariant waits on its level.
pub record CanSweep (p : Profile) (g : GraphShape) (y : List ℕ) (r : Cut) : Type 0 where
  pub quiet : AreQuiet p g r
  pub sized : length y ≡ g.vertices
  pub capped : IsCapped p g.vertices y
  pub counted : AreCounted g y (count_of r)
  pub queued : IsQueued p g y (waits r)

-- the ranges keep as risen the vertices that moved from x to y, each once
pub record HaveMoved (x y : List ℕ) (r : Cut) : Type 0 where
  pub risen : (v : ℕ) → has_number v (all_risen r) ≡ is_moved x y v
  pub once : AreDistinct (all_risen r)

-- the steps to lift in the graph all that rose: one for each neighbour, and one more
abbrev pub lift_cost : GraphShape → Cut → ℕ
lift_cost g r = degrees g (all_risen r) + length (all_risen r)

-- Enough steps are left to lift in the graph all that rose from x to y.
abbrev pub LiftsArePaid : GraphShape → List ℕ → List ℕ → Cut → ℕ → ℕ → Type 0
LiftsArePaid g x y r first now = now + lift_cost g r ≤ first + effort g x y g.vertices

-- a sweep that begins with the levels x
pub record IsFirst (p : Profile) (g : GraphShape) (x : List ℕ) (s : Sweeping) : Type 0 where
  pub sized : length x ≡ g.vertices
  pub capped : IsCapped p g.vertices x
  pub levels : s.levels ≡ x
  pub counted : AreCounted g x s.count
  pub queued : IsQueued p g x s.waits
  pub none : (s.rising ≡ []) × (s.risen ≡ []) × ((k : ℕ) → s.meets k ≡ [])

-- no vertex waits on the levels from l to k - 1, and none is to be met on those and on k
pub record IsFree (l k : ℕ) (waits : ℕ → List ℕ) (meets : ℕ → List Pair) : Type 0 where
  pub none_waits : (j : ℕ) → l ≤ j → j < k → waits j ≡ []
  pub none_meets : (j : ℕ) → l ≤ j → j ≤ k → meets j ≡ []

-- the sweep at the level k, with all rising vertices
abbrev pub together : Sweeping → ℕ → Sweeping
together s k = record s { level = k; levels = all_at s.levels s.rising k }

-- two states of a sweep that are the same to each test
pub record IsSame (s t : Sweeping) : Type 0 where
  pub level : t.level ≡ s.level
  pub levels : t.levels ≡ s.levels
  pub count : (v : ℕ) → t.count v ≡ s.count v
  pub lists : (t.rising ≡ s.rising) × (t.risen ≡ s.risen)
  pub waits : (k : ℕ) → t.waits k ≡ s.waits k
  pub meets : (k : ℕ) → t.meets k ≡ s.meets k
