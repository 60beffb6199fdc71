pub mod Buffer
pub mod Lines
pub mod VertexLines
pub mod private
