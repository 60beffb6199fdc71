-- What other crates may cite of the least number that passes a test.

-- the least number that passes is at most each number that passes
pub use Rattle.kc_levels.proofs.Least.{least-le}
-- the least number that passes is one that passes, where any number below the bound does
pub use Rattle.kc_levels.proofs.Least.{least-passes}
