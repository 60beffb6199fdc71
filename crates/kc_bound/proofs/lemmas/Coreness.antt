-- What other crates may cite of coreness, and the bounds of it by the level.

-- each vertex has a coreness
pub use Rattle.kc_bound.proofs.Existence.{each_has_coreness}
-- no vertex has two corenesses
pub use Rattle.kc_bound.proofs.LevelBounds.{coreness_is_one}
-- where both invariants hold, the bounds and the estimate are near the coreness
pub use Rattle.kc_bound.proofs.PointLaw.{both_are_near}
-- at each point of phases, one after another, the bounds and the estimate are near the coreness
pub use Rattle.kc_bound.proofs.PointLaw.{each_point_is_near}
