pub mod Changes
pub mod Cleaning
pub mod Counts
pub mod Edges
pub mod Neighbours
pub mod Numbers
