pub mod Cores
pub mod Nearness
pub mod Laws
pub mod private
