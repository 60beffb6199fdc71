-- Level lists over a graph: the two invariants, and the lists raised and lowered from another.
--
-- A level list x has a level for each vertex; the level of v is `get_or x v 0`.
use Rattle.std.specs.Prelude.{ℕ, ◌≤◌, ◌<◌, ◌≡◌, nat_le, List, length, get_or, count_by}
use Rattle.std.proofs.Common.{suc, zero}
use Rattle.kc_graph.specs.Shape.{GraphShape, neighbours_of}
use Rattle.kc_levels.specs.declared.profile.Profile.{Profile}
use Rattle.kc_levels.specs.Thresholds.{Scale, low, high, group_of, top_level}

-- how many neighbours of v have a level of at least l
unfoldable pub at_least : GraphShape → List ℕ → ℕ → ℕ → ℕ
at_least g x v l = count_by (λ w. nat_le l (get_or x w 0)) (neighbours_of v g.edges)

-- v has no more neighbours at its level or above than its band allows
abbrev pub MeetsUpper : Profile → GraphShape → List ℕ → ℕ → Type 0
MeetsUpper p g x v = at_least g x v (get_or x v 0) ≤ high p (group_of p g.vertices (get_or x v 0))

-- v has enough neighbours on the level below l or above to stand on l
abbrev pub IsHeld : Profile → GraphShape → List ℕ → ℕ → ℕ → Type 0
IsHeld p g x v zero = Unit {0}
IsHeld p g x v (suc l) = low p (group_of p g.vertices l) ≤ at_least g x v l

-- v has enough neighbours to stand on its level
abbrev pub MeetsLower : Profile → GraphShape → List ℕ → ℕ → Type 0
MeetsLower p g x v = IsHeld p g x v (get_or x v 0)

-- l is the greatest level, up to its own, on which v is held
pub record IsDesired (p : Profile) (g : GraphShape) (x : List ℕ) (v l : ℕ) : Type 0 where
  pub under : l ≤ get_or x v 0
  pub held : IsHeld p g x v l
  pub above : (k : ℕ) → l < k → k ≤ get_or x v 0 → ¬ (IsHeld p g x v k)

-- both invariants
pub record MeetsBoth (p : Profile) (g : GraphShape) (x : List ℕ) : Type 0 where
  pub sized : length x ≡ g.vertices
  pub upper : (v : ℕ) → v < g.vertices → MeetsUpper p g x v
  pub lower : (v : ℕ) → v < g.vertices → MeetsLower p g x v

-- x is at most y at each of n vertices
abbrev pub IsBelow : ℕ → List ℕ → List ℕ → Type 0
IsBelow n x y = (v : ℕ) → v < n → get_or x v 0 ≤ get_or y v 0

-- no level of x is above the top
abbrev pub IsCapped : Profile → ℕ → List ℕ → Type 0
IsCapped p n x = (v : ℕ) → v < n → get_or x v 0 ≤ top_level p n

-- the thresholds are for the graph's number of vertices, and the level of v is at most their top
pub record IsWithinAt (th : Scale) (g : GraphShape) (x : List ℕ) (v : ℕ) : Type 0 where
  pub scale : th.vertices ≡ g.vertices
  pub capped : get_or x v 0 ≤ top_level th.profile th.vertices

-- the thresholds are for the graph's number of vertices, and no level is above their top
pub record IsWithin (th : Scale) (g : GraphShape) (x : List ℕ) : Type 0 where
  pub scale : th.vertices ≡ g.vertices
  pub capped : (v : ℕ) → v < g.vertices → get_or x v 0 ≤ top_level th.profile th.vertices

-- y is at least x, within the top, and meets the upper invariant
pub record IsRaisable (p : Profile) (g : GraphShape) (x y : List ℕ) : Type 0 where
  pub sized : length y ≡ g.vertices
  pub from : IsBelow g.vertices x y
  pub capped : IsCapped p g.vertices y
  pub upper : (v : ℕ) → v < g.vertices → MeetsUpper p g y v

-- y is raised from x: the least list that is at least x, within the top, and meets the upper invariant
pub record IsRaised (p : Profile) (g : GraphShape) (x y : List ℕ) : Type 0 where
  pub raisable : IsRaisable p g x y
  pub least : (z : List ℕ) → IsRaisable p g x z → IsBelow g.vertices y z

-- y is at most x and meets the lower invariant
pub record IsLowerable (p : Profile) (g : GraphShape) (x y : List ℕ) : Type 0 where
  pub sized : length y ≡ g.vertices
  pub under : IsBelow g.vertices y x
  pub lower : (v : ℕ) → v < g.vertices → MeetsLower p g y v

-- y is lowered from x: the greatest list that is at most x and meets the lower invariant
pub record IsLowered (p : Profile) (g : GraphShape) (x y : List ℕ) : Type 0 where
  pub lowerable : IsLowerable p g x y
  pub greatest : (z : List ℕ) → IsLowerable p g x z → IsBelow g.vertices z y
