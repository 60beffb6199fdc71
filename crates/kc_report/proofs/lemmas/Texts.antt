-- What other crates may cite of texts that are written one after another.

-- a text was written, and none of those after it
pub use Rattle.kc_report.proofs.TextLemmas.{none_after}
-- after a first text one more was written
pub use Rattle.kc_report.proofs.TextLemmas.{more_after}
-- after a first text some were written, and a prefix of the next
pub use Rattle.kc_report.proofs.TextLemmas.{prefix_after}
