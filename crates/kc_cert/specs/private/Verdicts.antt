-- The verdict at one vertex.
use Rattle.std.specs.Prelude.{ℕ, ◌≡◌}
use Rattle.kc_cert.specs.declared.certificate.Certificate.{Certificate}
use Rattle.kc_cert.specs.declared.verdict.Verdict.{Verdict}
use Rattle.kc_cert.specs.declared.verdict.Verdict.TheVariants.{Certified, Upper, Lower}
use Rattle.kc_cert.specs.Verdicts.{HasUpper, HasLower}

-- the verdict at vertex v alone
abbrev pub IsVerdictAt : Certificate → ℕ → Verdict → Type 0
IsVerdictAt cert v Certified = HasUpper cert v × HasLower cert v
IsVerdictAt cert v (Upper w) = (w ≡ v) × ¬ (HasUpper cert v)
IsVerdictAt cert v (Lower w) = (w ≡ v) × ¬ (HasLower cert v)
