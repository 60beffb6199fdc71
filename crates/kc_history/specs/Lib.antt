pub mod Points
pub mod Ends
pub mod Replies
pub mod Laws
pub mod private
