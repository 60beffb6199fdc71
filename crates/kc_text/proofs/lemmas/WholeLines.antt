-- Lines that lie whole among bytes.

-- The lines of bytes that begin with a whole line.
pub use Rattle.kc_text.proofs.FirstLines.{first_line}
