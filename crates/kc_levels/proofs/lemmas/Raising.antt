-- What other crates may cite of vertices that rise while they break Upper.

-- a vertex on the top level doesn't break Upper
pub use Rattle.kc_levels.proofs.Raising.{top_meets_upper}
-- the list that raising begins with
pub use Rattle.kc_levels.proofs.Raising.{raising_first}
-- many vertices that break Upper rise by one level at once
pub use Rattle.kc_levels.proofs.Raising.{raising_many}
-- raising ends where no vertex breaks Upper
pub use Rattle.kc_levels.proofs.Raising.{raising_done}
-- exactly one list is raised
pub use Rattle.kc_levels.proofs.RaisedLaw.{raised_is_one_list}
