pub mod Links
pub mod Gathering
pub mod Entries
pub mod Phases
pub mod WellFormed
pub mod Laws
pub mod Sizes
pub mod private
