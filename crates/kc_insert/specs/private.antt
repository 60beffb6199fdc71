-- Words of private contracts and loop invariants: no public contract needs them.
pub mod Crossing
pub mod Filed
pub mod LevelStep
pub mod Meetings
pub mod Parts
pub mod Ranges
pub mod Rising
pub mod Sharing
pub mod Sweeping
pub mod Telling
pub mod Watched
