pub mod Colourings
pub mod Orientations
