-- What the levels of a graph say of coreness; each law is the contract of a function in `laws`.
use Rattle.std.specs.Prelude.{ℕ, ◌*◌, ◌≤◌, ◌<◌, ◌≡◌, Bool, List, [], get_or, take, replicate}
use Rattle.kc_graph.specs.Numbers.{has_number}
use Rattle.kc_graph.specs.Shape.{GraphShape, IsGraph}
use Rattle.kc_levels.specs.declared.profile.Profile.{Profile}
use Rattle.kc_levels.specs.declared.profile.Profile.TheVariants.{Two}
use Rattle.kc_levels.specs.Thresholds.{high, lo, est, group_of}
use Rattle.kc_levels.specs.LevelList.{MeetsUpper, MeetsLower, MeetsBoth}
use Rattle.kc_history.specs.Points.{graph_after, levels_after, graph_at, levels_at}
use Rattle.kc_groups.specs.declared.plans.PhasePlan.{PhasePlan}
use Rattle.kc_groups.specs.Entries.{entries_in}
use Rattle.kc_groups.specs.Phases.{LeadOn}
use Rattle.kc_bound.specs.Cores.{IsCore, IsCoreness}
use Rattle.kc_bound.specs.Nearness.{IsNear}

-- each core is the members of a list of vertices
abbrev pub CoresAreLists : Type 0
CoresAreLists = (g : GraphShape) (k : ℕ) (s : ℕ → Bool) → IsCore g k s → (xs : List ℕ) × ((u : ℕ) → has_number u xs ≡ s u)

-- each vertex of a graph has a coreness
abbrev pub EachHasCoreness : Type 0
EachHasCoreness = (g : GraphShape) (v : ℕ) → IsGraph g → v < g.vertices → (c : ℕ) × IsCoreness g v c

-- a vertex has no two corenesses
abbrev pub CorenessIsOne : Type 0
CorenessIsOne = (g : GraphShape) (v a b : ℕ) → IsCoreness g v a → IsCoreness g v b → a ≡ b

-- if each vertex meets the upper invariant, no coreness is above the high of the band of its vertex's level
abbrev pub HighBoundsCoreness : Type 0
HighBoundsCoreness =
    (p : Profile) (g : GraphShape) (x : List ℕ) → ((u : ℕ) → u < g.vertices → MeetsUpper p g x u) →
    (v c : ℕ) → IsCoreness g v c → c ≤ high p (group_of p g.vertices (get_or x v 0))

-- if each vertex meets the lower invariant, no coreness is below the lo of the band of its vertex's level
abbrev pub LoBoundsCoreness : Type 0
LoBoundsCoreness =
    (p : Profile) (g : GraphShape) (x : List ℕ) → IsGraph g → ((u : ℕ) → u < g.vertices → MeetsLower p g x u) →
    (v c : ℕ) → IsCoreness g v c → lo p (group_of p g.vertices (get_or x v 0)) ≤ c

-- if both invariants hold, the estimate is near: at most twice the coreness, and at least a third of it
--
-- in the second profile at least half of it
pub record EstimateIsNearCoreness : Type 0 where
  pub estimate : (p : Profile) (g : GraphShape) (x : List ℕ) → IsGraph g → MeetsBoth p g x →
      (v c : ℕ) → IsCoreness g v c → est p (group_of p g.vertices (get_or x v 0)) ≤ 2 * c
  pub coreness : (p : Profile) (g : GraphShape) (x : List ℕ) → IsGraph g → MeetsBoth p g x →
      (v c : ℕ) → IsCoreness g v c → c ≤ 3 * est p (group_of p g.vertices (get_or x v 0))
  pub nearer : (g : GraphShape) (x : List ℕ) → IsGraph g → MeetsBoth Two g x →
      (v c : ℕ) → IsCoreness g v c → c ≤ 2 * est Two (group_of Two g.vertices (get_or x v 0))

-- levels that meet both invariants are near
abbrev pub BothAreNear : Type 0
BothAreNear = (p : Profile) (g : GraphShape) (x : List ℕ) → IsGraph g → MeetsBoth p g x → IsNear p g x

-- levels are near at each point of phases that begin where both invariants hold, and so at each point of a history
--
-- A history starts without edges and with all levels 0. A point past the end is the end.
pub record EachPointIsNear : Type 0 where
  pub later : (p : Profile) (g h : GraphShape) (x y : List ℕ) (plans : List PhasePlan) (k : ℕ) → IsGraph g → MeetsBoth p g x → LeadOn p g x plans h y →
      IsNear p (graph_after g (take k (entries_in plans))) (levels_after x (take k (entries_in plans)))
  pub history : (p : Profile) (n : ℕ) (h : GraphShape) (y : List ℕ) (plans : List PhasePlan) (k : ℕ) → LeadOn p (record { vertices = n; edges = [] }) (replicate n 0) plans h y →
      IsNear p (graph_at n (entries_in plans) k) (levels_at n (entries_in plans) k)
