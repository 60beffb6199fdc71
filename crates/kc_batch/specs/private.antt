-- Words of private contracts and loop invariants: no public contract needs them.
pub mod Adding
pub mod Ahead
pub mod ItemLines
pub mod Tokens
pub mod Turns
