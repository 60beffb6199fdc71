-- What other crates may cite of the verdict on a run.

-- group lines of a history explain what the history explains
pub use Rattle.kc_audit.proofs.LineLemmas.{lines_explain}
-- each run has a verdict
pub use Rattle.kc_audit.proofs.SomeVerdict.{has_verdict}
-- a run whose replies are explained passes
pub use Rattle.kc_audit.proofs.VerdictLemmas.{explained_passes}
