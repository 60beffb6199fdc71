-- Words of private contracts and loop invariants: no public contract needs them.
pub mod Plans
pub mod Rule
pub mod Seats
pub mod Showing
pub mod Steps
