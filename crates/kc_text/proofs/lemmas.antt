pub mod Kept
pub mod Printing
pub mod WholeLines
pub mod Writing
