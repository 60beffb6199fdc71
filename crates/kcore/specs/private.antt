-- Words of private contracts and loop invariants: no public contract needs them.
pub mod AuditText
pub mod CheckText
pub mod Commands
pub mod Documents
pub mod InputTexts
pub mod Opening
pub mod Process
pub mod Writing
