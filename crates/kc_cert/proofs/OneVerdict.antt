-- Verdicts on a certificate exclude each other.
use Rattle.std.proofs.Common.{ℕ, ◌<◌, ◌≡◌, arith}
use Rattle.std.proofs.lemmas.Bool.Decides.{nat_tests}
use Rattle.kc_levels.specs.Laws.{NoneBreaksBoth}
use Rattle.kc_cert.specs.declared.certificate.Certificate.{Certificate}
use Rattle.kc_cert.specs.Laws.{VerdictIsOne}
use Rattle.kc_cert.specs.Texts.{IsCertificate}
use Rattle.kc_cert.specs.Verdicts.{HasUpper, HasLower, IsFirstBreach}

same_number : (a b : ℕ) → (a < b → ⊥) → (b < a → ⊥) → a ≡ b
same_number a b p q = grind (arith, nat_tests)

-- the least vertex that breaks an invariant is one, whichever it breaks
same_vertex : (cert : Certificate) (a b : ℕ) → IsFirstBreach cert a (HasUpper cert) → IsFirstBreach cert b (HasLower cert) → a ≡ b
same_vertex cert a b u l = same_number a b (λ lt. u.breaks (l.upper_before a lt)) (λ lt. l.breaks (u.lower_before b lt))

-- no vertex is the first to break the one and the first to break the other
apart : NoneBreaksBoth → (cert : Certificate) (a b : ℕ) → IsCertificate cert → IsFirstBreach cert a (HasUpper cert) → IsFirstBreach cert b (HasLower cert) → ⊥
apart none cert a b c u l = grind (arith, nat_tests, same_vertex, l.breaks, c.graph, c.some, u.breaks)

pub one_verdict : NoneBreaksBoth → VerdictIsOne
one_verdict none cert it h c v w = grind (arith, nat_tests, same_number, apart)
