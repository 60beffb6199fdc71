-- What other crates may cite of lists of levels that are written: at one place, or at the places that are copied.

-- what holds of the number written at v, and of the old number at every other place, holds at each place
pub use Rattle.kc_levels.proofs.Places.{changed}
-- at first no place of the list was copied
pub use Rattle.kc_levels.proofs.Copied.{copied_first}
-- more numbers were copied, and then more
pub use Rattle.kc_levels.proofs.Copied.{copied_then}
-- the places of one item more were copied
pub use Rattle.kc_levels.proofs.Copied.{copied_next}
-- the places of all items were copied
pub use Rattle.kc_levels.proofs.Copied.{copied_all}
