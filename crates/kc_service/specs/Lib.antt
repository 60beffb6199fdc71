pub mod Services
pub mod Opening
pub mod Readers
pub mod Keeping
pub mod private
