-- Lines that aren't skipped.

-- If a line is skipped, the kept lines are the same without it.
pub use Rattle.kc_text.proofs.KeptLemmas.{told_skips}
-- If a line isn't skipped, it is the first of the kept lines.
pub use Rattle.kc_text.proofs.KeptLemmas.{told_goes}
