-- Words of private contracts and loop invariants: no public contract needs them.
pub mod HeldBack
pub mod LevelWords
pub mod Tails
