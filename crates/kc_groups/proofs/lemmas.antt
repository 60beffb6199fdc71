pub mod Phases
pub mod Plans
