-- Words of private contracts and loop invariants: no public contract needs them.
pub mod Capped
pub mod Fallen
pub mod Settling
pub mod Waiting
