-- Raised lists by level sets: one sweep upward decides at each level which vertices go on above it.
use Rattle.std.specs.Prelude.{ℕ, ◌≤◌, ◌<◌, ◌≡◌, ◌⊎◌, ◌↔◌, List, length, get_or}
use Rattle.kc_graph.specs.Shape.{GraphShape, IsGraph}
use Rattle.kc_levels.specs.declared.profile.Profile.{Profile}
use Rattle.kc_levels.specs.Thresholds.{high, group_of, top_level}
use Rattle.kc_levels.specs.LevelList.{at_least, IsCapped, IsRaised}

-- v goes on above level l, for one of two reasons
--
-- It was above l in the old list x. Or it is on l or above in the new list y, and has more neighbours there than the
-- band of l allows.
abbrev pub GoesAbove : Profile → GraphShape → List ℕ → List ℕ → ℕ → ℕ → Type 0
GoesAbove p g x y l v = (l < get_or x v 0) ⊎ ((l ≤ get_or y v 0) × (high p (group_of p g.vertices l) < at_least g y v l))

-- y is swept from x: above each level below the top are exactly the vertices that go on above it
pub record IsSwept (p : Profile) (g : GraphShape) (x y : List ℕ) : Type 0 where
  pub sized : length y ≡ g.vertices
  pub capped : IsCapped p g.vertices y
  pub climbs : (v l : ℕ) → v < g.vertices → l < get_or y v 0 → GoesAbove p g x y l v
  pub stays : (v l : ℕ) → v < g.vertices → l < top_level p g.vertices → GoesAbove p g x y l v → l < get_or y v 0

-- the swept lists are the raised ones
abbrev pub SweptIsRaised : Type 0
SweptIsRaised = (p : Profile) (g : GraphShape) (x y : List ℕ) → IsGraph g → IsCapped p g.vertices x → (IsSwept p g x y ↔ IsRaised p g x y)
