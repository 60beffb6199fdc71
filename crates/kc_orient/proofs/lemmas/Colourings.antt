-- What other crates may cite of colourings.

-- each orientation has a colouring
pub use Rattle.kc_orient.proofs.Existence.{colouring_is_one}
-- no orientation has two colourings
pub use Rattle.kc_orient.proofs.Colourings.{colourings_are_one}
-- a colouring is proper: the ends of an edge have different colours
pub use Rattle.kc_orient.proofs.Colourings.{colouring_is_proper}
-- no colour of a colouring is above the number of its vertex's out-neighbours
pub use Rattle.kc_orient.proofs.Colourings.{colours_are_few}
