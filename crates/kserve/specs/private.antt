-- Words of private contracts and loop invariants: no public contract needs them.
pub mod Clients
pub mod Ending
pub mod Engines
pub mod Faults
pub mod Fitting
pub mod Inputs
pub mod Reading
pub mod Scripts
pub mod Served
pub mod Serving
