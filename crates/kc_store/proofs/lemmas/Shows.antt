-- What other crates may cite of plans that are shown, group by group.

-- no group was shown yet
pub use Rattle.kc_store.proofs.Shows.{shown_none}
-- one group more was shown
pub use Rattle.kc_store.proofs.Shows.{shown_more}
-- once all groups were shown the writer is idle
pub use Rattle.kc_store.proofs.Shows.{idle_shown}
-- what holds of each place of a group's moves holds of each move
pub use Rattle.kc_store.proofs.Shows.{all_moves}
-- each move of a marker's range is marked, or cleared
pub use Rattle.kc_store.proofs.Shows.{lent_marked, lent_cleared}
