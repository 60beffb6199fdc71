pub mod Batches
pub mod Ending
pub mod Fitting
pub mod Inputs
pub mod Lines
pub mod Served
pub mod private
