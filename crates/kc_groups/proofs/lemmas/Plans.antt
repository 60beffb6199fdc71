-- What other crates may cite of the plan of a phase.

-- there is exactly one plan of a phase
pub use Rattle.kc_groups.proofs.PlanLaw.{plan_is_one}
-- the plan of a phase is well formed
pub use Rattle.kc_groups.proofs.PlanLaw.{plan_is_well_formed}
-- the moves of a plan stand in their groups
pub use Rattle.kc_groups.proofs.MovesLaw.{moves_are_in_their_groups}
-- moves between two lists of levels are in order
pub use Rattle.kc_groups.proofs.PlanLemmas.{between_in_order}
-- the vertices of moves
pub use Rattle.kc_groups.proofs.ListLemmas.{vertices}
-- each label below a bound is a vertex that is its own label
pub use Rattle.kc_groups.proofs.ListLemmas.{labels_own}
-- the labels are ascending
pub use Rattle.kc_groups.proofs.ListLemmas.{labels_rise}
-- the move of each vertex of a label is among the moves of the label
pub use Rattle.kc_groups.proofs.ListLemmas.{has_move}
-- what holds of the move of each vertex of a label holds of each move of the label
pub use Rattle.kc_groups.proofs.ListLemmas.{all_moves}
-- the vertices of the moves of a label are ascending
pub use Rattle.kc_groups.proofs.ListLemmas.{moves_rise}
-- a vertex with a label moves
pub use Rattle.kc_groups.proofs.PlanLaw.{moves_if_labelled}
