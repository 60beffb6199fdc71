-- What other crates may cite of the thresholds of a profile, its groups of levels and its top.

-- `low` never falls
pub use Rattle.kc_levels.proofs.Sequences.{low-mono}
-- `low` is at least 1
pub use Rattle.kc_levels.proofs.Sequences.{low-pos}
-- `high` never falls
pub use Rattle.kc_levels.proofs.Sequences.{high-mono}
-- `high` is at most three times the estimate
pub use Rattle.kc_levels.proofs.Sequences.{high-est}
-- in the profile 2 `high` is at most twice the estimate
pub use Rattle.kc_levels.proofs.Sequences.{high-est-two}
-- `grow` of a group is above the group's number
pub use Rattle.kc_levels.proofs.Sequences.{grow-ge}
-- `grow` of the height is above the number of vertices
pub use Rattle.kc_levels.proofs.Groups.{grow-height}
-- groups have at least one level
pub use Rattle.kc_levels.proofs.Groups.{height-pos}
-- a greater level is of no lesser group
pub use Rattle.kc_levels.proofs.Groups.{group_of-mono}
-- each step of `lo` leads to 1 at least
pub use Rattle.kc_levels.proofs.ProfileFacts.{lo_after-pos}
-- no top level is above that of the greatest number of vertices
pub use Rattle.kc_levels.proofs.FitLaws.{top_is_low}
-- a level up to the top is of a group up to the last
pub use Rattle.kc_levels.proofs.Groups.{group_of-within}
-- `low` of a group up to the last is below 2 ^ 24
pub use Rattle.kc_levels.proofs.Groups.{low-small}
-- no top level is 20,000 or more
pub use Rattle.kc_levels.proofs.Groups.{top_level-small}
-- `high` over a number is at most twice the number
pub use Rattle.kc_levels.proofs.ProfileFacts.{high_over-near}
-- `low` does not fall from a group to the next
pub use Rattle.kc_levels.proofs.Sequences.{low-step}
