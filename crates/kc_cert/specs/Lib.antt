pub mod Documents
pub mod Laws
pub mod Reads
pub mod Texts
pub mod Tokens
pub mod Verdicts
pub mod private
