-- What other crates may cite of the vertices that move between two lists of levels, and their moves.

-- a vertex is among those that move below a bound where it is below it and moves
pub use Rattle.kc_levels.proofs.MovesBetween.{has_number-moved_below}
-- each of the vertices that move below a bound is below it and moves
pub use Rattle.kc_levels.proofs.MovesBetween.{moved_all}
-- the list of the vertices that move below a bound is ascending, and below it
pub use Rattle.kc_levels.proofs.MovesBetween.{moved_rise}
-- an ascending list of just the vertices below n that move is the list of those
pub use Rattle.kc_levels.proofs.MovesBetween.{moved_below_is}
-- there are as many moves as vertices that move
pub use Rattle.kc_levels.proofs.MovesBetween.{length-moves_between}
-- the vertices of the moves are those that move
pub use Rattle.kc_levels.proofs.MovesBetween.{vertices_between}
-- each move is that of a vertex below n which moves
pub use Rattle.kc_levels.proofs.MovesBetween.{moves_own}
-- a vertex that none of the moves is of keeps its level
pub use Rattle.kc_levels.proofs.Ascending.{still_here}
-- distinct vertices and one that isn't among them are distinct
pub use Rattle.kc_levels.proofs.Ascending.{distinct_push}
-- what holds of all of a list holds of it with one more element, where it holds of that one
pub use Rattle.kc_levels.proofs.MovesBetween.{all_pushed}
-- a list whose numbers are below k has all of them below k + 1
pub use Rattle.kc_levels.proofs.MovesBetween.{below_next}
-- a list whose numbers are below k has, with k put at its end, all of them below k + 1
pub use Rattle.kc_levels.proofs.MovesBetween.{below_push}
-- an ascending list whose numbers are below k stays ascending when k is put at its end
pub use Rattle.kc_levels.proofs.MovesBetween.{rises_push}
