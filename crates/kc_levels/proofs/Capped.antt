-- Levels within the top of thresholds.
use Rattle.std.proofs.Common.{ℕ, ◌≡◌, List}
use Rattle.kc_graph.specs.Shape.{GraphShape}
use Rattle.kc_levels.specs.Thresholds.{Scale}
use Rattle.kc_levels.specs.LevelList.{IsCapped, IsWithin}

-- levels within the top of thresholds are capped
pub capped_of : (th : Scale) (g : GraphShape) (x : List ℕ) → IsWithin th g x → IsCapped th.profile g.vertices x
capped_of th g x within = rw within.scale at within.capped

-- capped levels are within the top of thresholds for the graph
pub within_of : (th : Scale) (g : GraphShape) (x : List ℕ) → th.vertices ≡ g.vertices → IsCapped th.profile g.vertices x → IsWithin th g x
within_of th g x scale capped = record { scale = scale; capped = rw scale capped }
