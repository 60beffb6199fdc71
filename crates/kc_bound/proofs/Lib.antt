pub mod lemmas
mod Counts
mod HighBound
mod Removals
mod LoBound
mod Growth
mod LevelBounds
mod Ordered
mod Peels
mod Sorting
mod Existence
mod Members
mod PointLaw
