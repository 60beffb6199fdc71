pub mod Batches
pub mod Phases
