-- The plan of a batch, by whether its phases are recorded.
use Rattle.std.specs.Prelude.{ℕ, ◌≡◌, List}
use Rattle.kc_graph.specs.declared.cleaning.Cleaned.{Cleaned}
use Rattle.kc_graph.specs.Shape.{GraphShape}
use Rattle.kc_levels.specs.declared.profile.Profile.{Profile}
use Rattle.kc_engine.specs.declared.plans.BatchPlan.{BatchPlan}
use Rattle.kc_engine.specs.Batches.{AreLevelsAfter, moves_through, ArePhases}

-- the plan of a batch after which the levels are y: its phases, and the number of moves in them
pub record IsPlanOf (p : Profile) (before : ℕ) (g : GraphShape) (c : Cleaned) (x y : List ℕ) (plan : BatchPlan) : Type 0 where
  pub levels : AreLevelsAfter p g c x y
  pub phases : ArePhases before g c x levels.between y plan.phases
  pub count : plan.moves ≡ moves_through g.vertices x levels.between y
