-- What levels say of the coreness of each vertex.
use Rattle.std.specs.Prelude.{ℕ, ◌*◌, ◌≤◌, ◌≡◌, List, get_or}
use Rattle.kc_graph.specs.Shape.{GraphShape, IsGraph}
use Rattle.kc_levels.specs.declared.profile.Profile.{Profile}
use Rattle.kc_levels.specs.declared.profile.Profile.TheVariants.{Two}
use Rattle.kc_levels.specs.Thresholds.{high, lo, est, group_of}
use Rattle.kc_levels.specs.LevelList.{MeetsBoth}
use Rattle.kc_bound.specs.Cores.{IsCoreness}

-- the band of the level of v
abbrev pub group_at : Profile → GraphShape → List ℕ → ℕ → ℕ
group_at p g x v = group_of p g.vertices (get_or x v 0)

-- the levels x meet both invariants in the graph g, so each coreness lies between the bounds of its vertex's level
--
-- The estimate is at most twice the coreness. The coreness is at most three times the estimate, in the second profile
-- twice.
pub record IsNear (p : Profile) (g : GraphShape) (x : List ℕ) : Type 0 where
  pub graph : IsGraph g
  pub both : MeetsBoth p g x
  pub low : (v c : ℕ) → IsCoreness g v c → lo p (group_at p g x v) ≤ c
  pub high : (v c : ℕ) → IsCoreness g v c → c ≤ high p (group_at p g x v)
  pub estimate : (v c : ℕ) → IsCoreness g v c → est p (group_at p g x v) ≤ 2 * c
  pub coreness : (v c : ℕ) → IsCoreness g v c → c ≤ 3 * est p (group_at p g x v)
  pub nearer : p ≡ Two → (v c : ℕ) → IsCoreness g v c → c ≤ 2 * est p (group_at p g x v)
