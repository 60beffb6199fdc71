-- What other crates may cite of the number of neighbours of a vertex on a level or higher.

-- a vertex has fewer neighbours on a level or higher than there are vertices
pub use Rattle.kc_levels.proofs.AtLeast.{at_least-few}
-- a vertex has no fewer neighbours on a lower level or higher
pub use Rattle.kc_levels.proofs.AtLeast.{at_least-down}
-- how the count of a neighbour of v changes where v goes to the level k
pub use Rattle.kc_levels.proofs.AtLeast.{at_least-change}
-- the count of a neighbour of v stays where v was and is on the same side of the counted level
pub use Rattle.kc_levels.proofs.AtLeast.{at_least-kept}
-- the level of a vertex counts for its neighbours alone
pub use Rattle.kc_levels.proofs.AtLeast.{at_least-set}
-- a test that passes wherever another does counts no less over a list
pub use Rattle.kc_levels.proofs.AtLeast.{count_by-mono}
-- a list of levels at most another at each vertex is so past the end too
pub use Rattle.kc_levels.proofs.AtLeast.{below_everywhere}
