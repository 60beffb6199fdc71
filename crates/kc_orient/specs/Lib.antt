pub mod Shape
pub mod Colouring
pub mod Laws
pub mod Layout
pub mod private
