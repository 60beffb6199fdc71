pub mod Coreness
