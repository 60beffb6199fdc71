pub mod Degrees
pub mod LeveledGraph
pub mod LevelLists
pub mod private
