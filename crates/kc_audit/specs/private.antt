-- Words of private contracts and loop invariants: no public contract needs them.
pub mod Documents
pub mod Flat
pub mod Kinds
pub mod Walks
pub mod Words
