-- What raising and lowering keep, round by round.
use Rattle.std.specs.Prelude.{ℕ, ◌≡◌, List, length}
use Rattle.kc_graph.specs.Shape.{GraphShape}
use Rattle.kc_levels.specs.declared.profile.Profile.{Profile}
use Rattle.kc_levels.specs.LevelList.{IsBelow, IsCapped, IsRaisable, IsLowerable}

-- what raising keeps: y lies between x and every list that is raisable from x
pub record IsRaising (p : Profile) (g : GraphShape) (x y : List ℕ) : Type 0 where
  pub sized : length y ≡ g.vertices
  pub from : IsBelow g.vertices x y
  pub capped : IsCapped p g.vertices y
  pub least : (z : List ℕ) → IsRaisable p g x z → IsBelow g.vertices y z

-- what lowering keeps: y lies between every list that is lowerable from x and x
pub record IsLowering (p : Profile) (g : GraphShape) (x y : List ℕ) : Type 0 where
  pub sized : length y ≡ g.vertices
  pub under : IsBelow g.vertices y x
  pub greatest : (z : List ℕ) → IsLowerable p g x z → IsBelow g.vertices z y
