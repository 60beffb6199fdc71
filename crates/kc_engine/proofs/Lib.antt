pub mod lemmas
mod BatchLemmas
mod RelinkLemmas
mod MoveLemmas
mod PhaseLaw
mod LeadLaw
mod ShowLaw
mod Loans
mod Groups
mod PhaseSteps
