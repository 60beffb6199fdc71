-- Words of private contracts and loop invariants: no public contract needs them.
pub mod NumberLines
pub mod Numbers
pub mod OpenLines
pub mod Reading
pub mod ScannerState
pub mod ScannerSteps
pub mod Scanning
pub mod WholeLines
