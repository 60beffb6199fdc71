pub mod Sets
pub mod Dense
pub mod Laws
pub mod private
