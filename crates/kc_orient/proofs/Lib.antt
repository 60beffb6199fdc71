pub mod lemmas
mod Upward
mod Arcs
mod Pigeons
mod Colourings
mod Filling
mod Marking
mod Descents
mod Coloured
mod Kept
mod Existence
