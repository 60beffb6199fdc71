-- Words of private contracts and loop invariants: no public contract needs them.
pub mod Dealing
pub mod Forest
pub mod Gathering
pub mod Labels
