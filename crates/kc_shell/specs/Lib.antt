pub mod Statuses
pub mod Workers
