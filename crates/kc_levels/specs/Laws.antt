-- Laws of the thresholds and of raised and lowered lists; each is the contract of a function in `laws`.
use Rattle.std.specs.Prelude.{ℕ, ◌+◌, ◌-◌, ◌*◌, ◌≤◌, ◌<◌, ◌≡◌, true, List, [], ◌∷◌, length, min, max, map, replicate, All}
use Rattle.kc_graph.specs.declared.limits.TheConstants.{MAX_VERTICES}
use Rattle.kc_graph.specs.Shape.{GraphShape, Pair, IsGraph, has_edge, with_edges, without_edges}
use Rattle.kc_levels.specs.declared.profile.Profile.{Profile}
use Rattle.kc_levels.specs.declared.profile.Profile.TheVariants.{One, Two}
use Rattle.kc_levels.specs.Thresholds.{low, high, grow, lo, est, height, last_group, top_level}
use Rattle.kc_levels.specs.LevelList.{MeetsUpper, MeetsLower, IsCapped, MeetsBoth, IsRaisable, IsRaised, IsLowerable, IsLowered}

-- 0 to 12
abbrev pub first_groups : List ℕ
first_groups = 0 ∷ 1 ∷ 2 ∷ 3 ∷ 4 ∷ 5 ∷ 6 ∷ 7 ∷ 8 ∷ 9 ∷ 10 ∷ 11 ∷ 12 ∷ []

-- 1 to 8
abbrev pub first_sizes : List ℕ
first_sizes = 1 ∷ 2 ∷ 3 ∷ 4 ∷ 5 ∷ 6 ∷ 7 ∷ 8 ∷ []

-- the first numbers of the sequences of the first profile
pub record FirstProfileBegins : Type 0 where
  pub lows : map (low One) first_groups ≡ 1 ∷ 1 ∷ 2 ∷ 3 ∷ 4 ∷ 5 ∷ 6 ∷ 7 ∷ 8 ∷ 10 ∷ 12 ∷ 15 ∷ 18 ∷ []
  pub highs : map (high One) first_groups ≡ 0 ∷ 2 ∷ 4 ∷ 6 ∷ 8 ∷ 10 ∷ 12 ∷ 14 ∷ 16 ∷ 20 ∷ 24 ∷ 30 ∷ 36 ∷ []
  pub los : map (lo One) first_groups ≡ 0 ∷ 1 ∷ 1 ∷ 1 ∷ 2 ∷ 2 ∷ 3 ∷ 3 ∷ 4 ∷ 4 ∷ 5 ∷ 6 ∷ 7 ∷ []
  pub ests : map (est One) first_groups ≡ 0 ∷ 2 ∷ 2 ∷ 2 ∷ 4 ∷ 4 ∷ 6 ∷ 6 ∷ 8 ∷ 8 ∷ 10 ∷ 12 ∷ 14 ∷ []
  pub grows : map (grow One) first_groups ≡ 1 ∷ 2 ∷ 3 ∷ 4 ∷ 5 ∷ 7 ∷ 9 ∷ 12 ∷ 15 ∷ 19 ∷ 24 ∷ 30 ∷ 38 ∷ []
  pub heights : map (height One) first_sizes ≡ 1 ∷ 2 ∷ 3 ∷ 4 ∷ 5 ∷ 5 ∷ 6 ∷ 6 ∷ []
  pub last_groups : map (last_group One) first_sizes ≡ 1 ∷ 1 ∷ 1 ∷ 2 ∷ 2 ∷ 3 ∷ 3 ∷ 4 ∷ []

-- 0 to 20
abbrev pub more_groups : List ℕ
more_groups = 0 ∷ 1 ∷ 2 ∷ 3 ∷ 4 ∷ 5 ∷ 6 ∷ 7 ∷ 8 ∷ 9 ∷ 10 ∷ 11 ∷ 12 ∷ 13 ∷ 14 ∷ 15 ∷ 16 ∷ 17 ∷ 18 ∷ 19 ∷ 20 ∷ []

-- the first numbers of the sequences of the second profile
pub record SecondProfileBegins : Type 0 where
  pub lows : map (low Two) more_groups ≡ 1 ∷ 1 ∷ 2 ∷ 3 ∷ 4 ∷ 5 ∷ 6 ∷ 7 ∷ 8 ∷ 9 ∷ 10 ∷ 11 ∷ 12 ∷ 13 ∷ 14 ∷ 15 ∷ 16 ∷ 18 ∷ 20 ∷ 22 ∷ 24 ∷ []
  pub highs : map (high Two) more_groups ≡ 0 ∷ 1 ∷ 3 ∷ 4 ∷ 6 ∷ 7 ∷ 9 ∷ 10 ∷ 12 ∷ 13 ∷ 15 ∷ 16 ∷ 18 ∷ 19 ∷ 21 ∷ 22 ∷ 24 ∷ 27 ∷ 30 ∷ 33 ∷ 36 ∷ []
  pub los : map (lo Two) more_groups ≡ 0 ∷ 1 ∷ 1 ∷ 1 ∷ 2 ∷ 2 ∷ 3 ∷ 3 ∷ 4 ∷ 4 ∷ 5 ∷ 5 ∷ 6 ∷ 6 ∷ 7 ∷ 7 ∷ 8 ∷ 8 ∷ 9 ∷ 10 ∷ 11 ∷ []
  pub ests : map (est Two) more_groups ≡ 0 ∷ 2 ∷ 2 ∷ 2 ∷ 4 ∷ 4 ∷ 6 ∷ 6 ∷ 8 ∷ 8 ∷ 10 ∷ 10 ∷ 12 ∷ 12 ∷ 14 ∷ 14 ∷ 16 ∷ 16 ∷ 18 ∷ 20 ∷ 22 ∷ []
  pub grows : map (grow Two) more_groups ≡ 1 ∷ 2 ∷ 3 ∷ 4 ∷ 5 ∷ 6 ∷ 7 ∷ 8 ∷ 9 ∷ 11 ∷ 13 ∷ 15 ∷ 17 ∷ 20 ∷ 23 ∷ 26 ∷ 30 ∷ 34 ∷ 39 ∷ 44 ∷ 50 ∷ []
  pub heights : map (height Two) first_sizes ≡ 1 ∷ 2 ∷ 3 ∷ 4 ∷ 5 ∷ 6 ∷ 7 ∷ 8 ∷ []
  pub last_groups : map (last_group Two) first_sizes ≡ 1 ∷ 1 ∷ 2 ∷ 2 ∷ 3 ∷ 4 ∷ 4 ∷ 5 ∷ []

-- from each level list within the top exactly one list is raised
abbrev pub RaisedIsOneList : Type 0
RaisedIsOneList =
    (p : Profile) (g : GraphShape) (x : List ℕ) → IsGraph g → length x ≡ g.vertices → IsCapped p g.vertices x →
    (y : List ℕ) × (IsRaised p g x y × ((z : List ℕ) → IsRaised p g x z → z ≡ y))

-- the top everywhere is raisable from each level list within the top
abbrev pub TopIsRaisable : Type 0
TopIsRaisable =
    (p : Profile) (g : GraphShape) (x : List ℕ) → IsGraph g → IsCapped p g.vertices x →
    IsRaisable p g x (replicate g.vertices (top_level p g.vertices))

-- the lesser level at each vertex
abbrev pub lesser : List ℕ → List ℕ → List ℕ
lesser [] ys = []
lesser (x ∷ xs) [] = []
lesser (x ∷ xs) (y ∷ ys) = min x y ∷ lesser xs ys

-- the lesser of two raisable lists is raisable
abbrev pub LesserIsRaisable : Type 0
LesserIsRaisable =
    (p : Profile) (g : GraphShape) (x y z : List ℕ) → IsRaisable p g x y → IsRaisable p g x z →
    IsRaisable p g x (lesser y z)

-- insertions in two steps raise the same list as in one
--
-- The list raised in a graph is raised again in a graph with more edges. That is the list raised in the second graph at
-- once.
abbrev pub InsertionsAloneGiveOneList : Type 0
InsertionsAloneGiveOneList =
    (p : Profile) (g h : GraphShape) (x y z : List ℕ) →
    IsGraph g → IsGraph h → g.vertices ≡ h.vertices → ((e : Pair) → has_edge e g.edges ≡ true → has_edge e h.edges ≡ true) →
    IsRaised p g x y → IsRaised p h y z → IsRaised p h x z

-- from each level list exactly one list is lowered
abbrev pub LoweredIsOneList : Type 0
LoweredIsOneList =
    (p : Profile) (g : GraphShape) (x : List ℕ) → length x ≡ g.vertices →
    (y : List ℕ) × (IsLowered p g x y × ((z : List ℕ) → IsLowered p g x z → z ≡ y))

-- level 0 everywhere is lowerable from each level list
abbrev pub ZerosAreLowerable : Type 0
ZerosAreLowerable = (p : Profile) (g : GraphShape) (x : List ℕ) → IsLowerable p g x (replicate g.vertices 0)

-- the greater level at each vertex
abbrev pub greater : List ℕ → List ℕ → List ℕ
greater [] ys = []
greater (x ∷ xs) [] = []
greater (x ∷ xs) (y ∷ ys) = max x y ∷ greater xs ys

-- the greater of two lowerable lists is lowerable
abbrev pub GreaterIsLowerable : Type 0
GreaterIsLowerable =
    (p : Profile) (g : GraphShape) (x y z : List ℕ) → IsLowerable p g x y → IsLowerable p g x z →
    IsLowerable p g x (greater y z)

-- if edges come in and the levels rise, both invariants are kept
abbrev pub InsertionKeepsBoth : Type 0
InsertionKeepsBoth =
    (p : Profile) (g : GraphShape) (added : List Pair) (x y : List ℕ) →
    IsGraph g → All (λ e. (e.0 < e.1) × (e.1 < g.vertices)) added → MeetsBoth p g x →
    IsRaised p (with_edges g added) x y → MeetsBoth p (with_edges g added) y

-- if edges leave and the levels fall, both invariants are kept
abbrev pub DeletionKeepsBoth : Type 0
DeletionKeepsBoth =
    (p : Profile) (g : GraphShape) (removed : List Pair) (x y : List ℕ) →
    IsGraph g → MeetsBoth p g x →
    IsLowered p (without_edges g removed) x y → MeetsBoth p (without_edges g removed) y

-- the estimate is twice lo, and high is at most three times the estimate, in the second profile twice
pub record EstimateIsNear : Type 0 where
  pub twice : (p : Profile) (j : ℕ) → est p j ≡ 2 * lo p j
  pub near : (p : Profile) (j : ℕ) → high p j ≤ 3 * est p j
  pub nearer : (j : ℕ) → high Two j ≤ 2 * est Two j

-- the sequences never fall, and a vertex that has too many neighbours for a band has enough for the next
pub record SequencesRise : Type 0 where
  pub low_rises : (p : Profile) (i j : ℕ) → i ≤ j → low p i ≤ low p j
  pub high_rises : (p : Profile) (i j : ℕ) → i ≤ j → high p i ≤ high p j
  pub lo_rises : (p : Profile) (i j : ℕ) → i ≤ j → lo p i ≤ lo p j
  pub grow_rises : (p : Profile) (i j : ℕ) → i ≤ j → grow p i ≤ grow p j
  pub next_is_reached : (p : Profile) (i : ℕ) → low p i ≤ high p i + 1

-- the height is the least number of levels after which a set has grown to more than n vertices
pub record HeightIsLeast : Type 0 where
  pub over : (p : Profile) (n : ℕ) → n < grow p (height p n)
  pub least : (p : Profile) (n j : ℕ) → j < height p n → grow p j ≤ n

-- the last band is the least one, from band 1 on, that allows as many neighbours as a vertex can have
pub record LastGroupIsLeast : Type 0 where
  pub some : (p : Profile) (n : ℕ) → 1 ≤ last_group p n
  pub allows : (p : Profile) (n : ℕ) → n - 1 ≤ high p (last_group p n)
  pub least : (p : Profile) (n i : ℕ) → 1 ≤ i → i < last_group p n → high p i < n - 1

-- no top is above the top for `MAX_VERTICES` vertices
pub record TopIsLow : Type 0 where
  pub one : (n : ℕ) → n ≤ MAX_VERTICES → top_level One n ≤ 5042
  pub two : (n : ℕ) → n ≤ MAX_VERTICES → top_level Two n ≤ 16769

-- a vertex that breaks the upper invariant meets the lower one
abbrev pub NoneBreaksBoth : Type 0
NoneBreaksBoth =
    (p : Profile) (g : GraphShape) (x : List ℕ) (v : ℕ) → IsGraph g → 1 ≤ g.vertices → ¬ (MeetsUpper p g x v) → MeetsLower p g x v
