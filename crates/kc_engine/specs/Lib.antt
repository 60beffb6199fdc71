pub mod States
pub mod Batches
pub mod Readiness
pub mod Planning
pub mod Laws
pub mod Showing
pub mod private
