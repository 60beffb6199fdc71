-- Words of private contracts and loop invariants: no public contract needs them.
pub mod Batches
pub mod Blanks
pub mod Lending
pub mod Rest
pub mod Shows
