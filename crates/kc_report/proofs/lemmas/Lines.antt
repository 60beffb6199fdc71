-- What other crates may cite of lines as they are put together.

-- a buffer that was sent with its end is a line that was written
pub use Rattle.kc_report.proofs.LineLemmas.{sent_as}
-- a buffer that was sent as a line, so far as it was
pub use Rattle.kc_report.proofs.LineLemmas.{sent_prefix}
-- a buffer that was sent whole as a line
pub use Rattle.kc_report.proofs.LineLemmas.{sent_whole}
-- words that are joined, each but the first with its blank
pub use Rattle.kc_report.proofs.TextLemmas.{joined}
-- one more member was put together
pub use Rattle.kc_report.proofs.TextLemmas.{members_more}
