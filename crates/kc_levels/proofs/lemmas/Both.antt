-- What other crates may cite of both invariants together.

-- both invariants hold after edges came in and the levels were raised
pub use Rattle.kc_levels.proofs.BothKept.{insertion_keeps_both}
-- both invariants hold after edges left and the levels were lowered
pub use Rattle.kc_levels.proofs.BothKept.{deletion_keeps_both}
-- both invariants hold between two states in which they hold
pub use Rattle.kc_levels.proofs.BetweenLaw.{between_meets_both}
