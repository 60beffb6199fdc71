-- What other crates may cite of the phases of a batch.

-- a batch has exactly one list of phases
pub use Rattle.kc_engine.proofs.PhaseLaw.{phases_are_one}
-- the phases of a batch are well formed
pub use Rattle.kc_engine.proofs.PhaseLaw.{phases_are_well_formed}
-- the entries of the phases of a batch lead over the batch, also after a history
pub use Rattle.kc_engine.proofs.PhaseLaw.{phases_lead_on}
-- each phase of a batch leads from the graph and levels before it to those after it
pub use Rattle.kc_engine.proofs.LeadLaw.{phases_lead_one_by_one}
-- the phases of a batch continue the history of a writer that is abreast of the state before them
pub use Rattle.kc_engine.proofs.ShowLaw.{phases_continue}
-- once the phases of a batch are shown, the writer is abreast of the state after them
pub use Rattle.kc_engine.proofs.ShowLaw.{shown_is_abreast}
-- the phases of a batch are numbered on from those before it
pub use Rattle.kc_engine.proofs.PhaseLaw.{phases_are_numbered_on}
