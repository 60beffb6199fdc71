-- The lemmas that other crates may cite about batches one after another, and the states after them.

-- the state before the first batch is sound
pub use Rattle.kc_session.proofs.Steps.{sound_start}
-- a batch leaves a sound state with as many vertices
pub use Rattle.kc_session.proofs.Steps.{sound_step}
-- a batch leaves a state with the same profile
pub use Rattle.kc_session.proofs.Steps.{profile_step}
-- the batches of each input have a list of steps
pub use Rattle.kc_session.proofs.Settles.{start_states}
-- the batches of an input have only one list of steps
pub use Rattle.kc_session.proofs.Runs.{one_run}
-- the state after all batches is sound, with as many vertices
pub use Rattle.kc_session.proofs.Runs.{sound_last}
-- the state after all batches has the same profile
pub use Rattle.kc_session.proofs.Runs.{profile_last}
-- a batch removes fewer than 2 ^ 32 edges
pub use Rattle.kc_session.proofs.BatchSteps.{few_removed}
-- a batch adds fewer than 2 ^ 32 edges
pub use Rattle.kc_session.proofs.BatchSteps.{few_added}
-- the quiet entries of a batch have fewer than 2 ^ 32 edges
pub use Rattle.kc_session.proofs.BatchSteps.{few_quiet}
