-- Lowering with marks at the vertices that wait for a test.
use Rattle.std.specs.Prelude.{ℕ, ◌-◌, ◌≤◌, ◌<◌, ◌≡◌, ◌⊎◌, ◌&&◌, nat_lt, Bool, true, false, List, [], ◌∷◌, length, get_or}
use Rattle.kc_graph.specs.Shape.{GraphShape, Pair, neighbours_of}
use Rattle.kc_levels.specs.declared.profile.Profile.{Profile}
use Rattle.kc_levels.specs.Thresholds.{low, group_of}
use Rattle.kc_levels.specs.LevelList.{at_least, MeetsLower}
use Rattle.kc_levels.specs.private.LevelList.{IsLowering}

-- v waits, or has enough neighbours to stand on its level
abbrev pub WaitsOrMeets : Profile → GraphShape → List ℕ → List Bool → ℕ → Type 0
WaitsOrMeets p g y waits v = (get_or waits v false ≡ true) ⊎ MeetsLower p g y v

-- the levels x went down to y, and each vertex that breaks the lower invariant waits
pub record IsSettling (p : Profile) (g : GraphShape) (x y : List ℕ) (waits : List Bool) : Type 0 where
  pub lowering : IsLowering p g x y
  pub sized : length waits ≡ g.vertices
  pub meets : (v : ℕ) → v < g.vertices → WaitsOrMeets p g y waits v

-- v has too few neighbours to stand on its level
abbrev pub is_short : Profile → GraphShape → List ℕ → ℕ → Bool
is_short p g y v = nat_lt 0 (get_or y v 0) && nat_lt (at_least g y v (get_or y v 0 - 1)) (low p (group_of p g.vertices (get_or y v 0 - 1)))

-- the vertices that wait before wait after too
abbrev pub StillWait : List Bool → List Bool → Type 0
StillWait before after = (v : ℕ) → get_or before v false ≡ true → get_or after v false ≡ true

-- a vertex falls between two levels, and a neighbour on this level keeps its count
--
-- A neighbour counts from the level below its own on. So it counts the vertex both before and after the fall, or
-- neither.
abbrev pub KeepsCount : ℕ → ℕ → ℕ → Type 0
KeepsCount from to level = (level - 1 ≤ to) ⊎ (from < level - 1)

-- w was tested after a neighbour fell from one level to another, or needed no test
abbrev pub IsLookedAt : Profile → GraphShape → ℕ → ℕ → List ℕ → List Bool → ℕ → Type 0
IsLookedAt p g from to y waits w = KeepsCount from to (get_or y w 0) ⊎ WaitsOrMeets p g y waits w

-- each neighbour of v was looked at after v fell from a level to its own
abbrev pub AreLookedAt : Profile → GraphShape → ℕ → ℕ → List ℕ → List Bool → Type 0
AreLookedAt p g v from y waits =
    (k : ℕ) → k < length (neighbours_of v g.edges) → IsLookedAt p g from (get_or y v 0) y waits (get_or (neighbours_of v g.edges) k 0)

-- both ends of each edge
abbrev pub ends_of : List Pair → List ℕ
ends_of [] = []
ends_of (e ∷ es) = e.0 ∷ e.1 ∷ ends_of es
