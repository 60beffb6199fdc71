-- What other crates may cite of the points of a history.

-- the graph after entries and then more is the graph after the more from where the first led
pub use Rattle.kc_history.proofs.PointLemmas.{graph_after-append}
-- the levels after entries and then more are the levels after the more from where the first led
pub use Rattle.kc_history.proofs.PointLemmas.{levels_after-append}
-- entries that follow a history lead on from its last point
pub use Rattle.kc_history.proofs.PointLemmas.{entries_lead_on}
