-- Words of private contracts and loop invariants: no public contract needs them.
pub mod AskLists
pub mod Audiences
pub mod Counts
pub mod Faults
pub mod Generating
pub mod Outcomes
pub mod Running
pub mod States
