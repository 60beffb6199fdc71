-- What other crates may cite of vertices that fall to the levels they desire.

-- what is held on a level is held on each lower one
pub use Rattle.kc_levels.proofs.Lowering.{held_down}
-- the list that lowering begins with
pub use Rattle.kc_levels.proofs.Lowering.{lowering_first}
-- a vertex falls to its desired level
pub use Rattle.kc_levels.proofs.Lowering.{lowering_more}
-- exactly one list is lowered
pub use Rattle.kc_levels.proofs.LoweredLaw.{lowered_is_one_list}
