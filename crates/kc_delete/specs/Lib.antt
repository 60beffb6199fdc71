pub mod Working
pub mod private
