-- Words of private contracts and loop invariants: no public contract needs them.
pub mod Afresh
pub mod Lifting
pub mod Linking
pub mod Moving
pub mod Passing
pub mod Standing
