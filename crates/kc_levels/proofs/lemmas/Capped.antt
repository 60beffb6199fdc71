-- What other crates may cite of levels within the top of thresholds.

-- levels within the top of thresholds are capped
pub use Rattle.kc_levels.proofs.Capped.{capped_of}
-- capped levels are within the top of thresholds for the graph
pub use Rattle.kc_levels.proofs.Capped.{within_of}
