-- Words of private contracts and loop invariants: no public contract needs them.
pub mod Buckets
pub mod Digits
pub mod EdgeLists
pub mod HalfLists
pub mod Halves
pub mod KeptRows
pub mod Keys
pub mod Later
pub mod Numbers
pub mod Walks
