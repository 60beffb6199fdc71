-- Words of private contracts and loop invariants: no public contract needs them.
pub mod Reads
pub mod Texts
pub mod Tokens
pub mod Verdicts
