-- What other crates may cite of lists by level.

-- empty lists are empty at each level, past the last too
pub use Rattle.kc_adj.proofs.Marks.{empty_list}
