pub mod Plans
pub mod States
pub mod Seats
pub mod Showing
pub mod private
