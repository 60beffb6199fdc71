pub mod Effort
pub mod Ranges
pub mod Working
pub mod private
