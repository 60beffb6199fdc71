-- What other crates may cite of one batch.

-- the state before the first batch is sound
pub use Rattle.kc_engine.proofs.BatchLemmas.{start_is_sound}
-- there is exactly one state after a batch
pub use Rattle.kc_engine.proofs.BatchLemmas.{batch_has_one_state}
-- a batch that isn't refused leaves a sound state
pub use Rattle.kc_engine.proofs.BatchLemmas.{batch_keeps_sound}
-- a batch leaves the number of vertices as it was
pub use Rattle.kc_engine.proofs.BatchLemmas.{vertices_after}
-- a batch that is a cleaning for the graph fits it
pub use Rattle.kc_engine.proofs.BatchLemmas.{fits}
-- there are few edges after a batch that isn't refused
pub use Rattle.kc_engine.proofs.BatchLemmas.{edges_behind}
-- a sound state has a graph, as many levels as vertices, and both invariants
pub use Rattle.kc_engine.proofs.BatchLemmas.{at_state}
-- once edges left and the levels were lowered, a state still has a graph, as many levels as vertices, and both invariants
pub use Rattle.kc_engine.proofs.BatchLemmas.{after_lowered}
