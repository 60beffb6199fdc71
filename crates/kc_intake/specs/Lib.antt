pub mod Updates
pub mod Views
pub mod Rule
pub mod Causes
pub mod OneClient
pub mod private
