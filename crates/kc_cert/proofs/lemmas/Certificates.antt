-- What other crates may cite of certificates.

-- a certificate is read back from its text
pub use Rattle.kc_cert.proofs.ReadBack.{certificate_back as certificate_is_read_back}
-- each certificate has a verdict
pub use Rattle.kc_cert.proofs.SomeVerdict.{has_verdict}
-- a certificate is certified where both invariants hold
pub use Rattle.kc_cert.proofs.SomeVerdict.{verdict_is_certified}
