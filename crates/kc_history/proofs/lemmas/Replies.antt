-- What other crates may cite of replies that a history explains.

-- replies that are explained from a point on are so from each earlier one
pub use Rattle.kc_history.proofs.ReplyLemmas.{earlier_explains}
-- a longer history explains the same replies
pub use Rattle.kc_history.proofs.ReplyLemmas.{longer_explains}
-- a reply that tells the level of its vertex at the end of the history can follow
pub use Rattle.kc_history.proofs.ReplyLemmas.{end_explains_more}
-- each history explains replies of level 0, by its start
pub use Rattle.kc_history.proofs.ReplyLemmas.{start_explains_zeros}
