-- Each certificate has a verdict.
use Rattle.std.proofs.Common.{ℕ, zero, suc, ◌≤◌, ◌<◌, ◌⊎◌, inl, inr, get_or, arith}
use Rattle.std.proofs.lemmas.Bool.Decides.{nat_tests}
use Rattle.kc_levels.specs.LevelList.{IsHeld}
use Rattle.kc_cert.specs.declared.certificate.Certificate.{Certificate}
use Rattle.kc_cert.specs.declared.verdict.Verdict.{Verdict}
use Rattle.kc_cert.specs.declared.verdict.Verdict.TheVariants.{Upper, Lower}
use Rattle.kc_cert.specs.Laws.{HasVerdict, VerdictIsCertified}
use Rattle.kc_cert.specs.Verdicts.{HasUpper, HasLower, IsVerdict}

has_upper : (cert : Certificate) (v : ℕ) → HasUpper cert v ⊎ ¬ (HasUpper cert v)
has_upper cert v = grind (arith, nat_tests)

held : (cert : Certificate) (v l : ℕ) → IsHeld cert.profile cert.graph cert.levels v l ⊎ ¬ (IsHeld cert.profile cert.graph cert.levels v l)
held cert v l = grind (arith, nat_tests)

has_lower : (cert : Certificate) (v : ℕ) → HasLower cert v ⊎ ¬ (HasLower cert v)
has_lower cert v = held cert v (get_or cert.levels v 0)

-- each vertex below k meets both
record MeetBelow (cert : Certificate) (k : ℕ) : Type 0 where
  upper : (v : ℕ) → v < k → HasUpper cert v
  lower : (v : ℕ) → v < k → HasLower cert v

one_more : (P : ℕ → Type 0) (k : ℕ) → ((v : ℕ) → v < k → P v) → P k → (v : ℕ) → v < suc k → P v
one_more P k h here v lt = grind (arith, nat_tests)

-- a breach below k, or none
below : (cert : Certificate) (k : ℕ) → k ≤ cert.graph.vertices → MeetBelow cert k ⊎ ((verdict : Verdict) × IsVerdict cert verdict)
below cert zero le = inl (record { upper = λ v lt. absurd (omega (arith, lt)); lower = λ v lt. absurd (omega (arith, lt)) })
below cert (suc k) le = elim (below cert k (omega (arith, le))) [
  | inr found ↦ inr found
  | inl meet ↦ elim (has_upper cert k) [
    | inr breaks ↦ inr (Upper k, record { vertex = omega (arith, le); breaks = breaks; upper_before = meet.upper; lower_before = meet.lower })
    | inl upper ↦ elim (has_lower cert k) [
      | inr breaks ↦ inr (Lower k, record { vertex = omega (arith, le); breaks = breaks; upper_before = meet.upper; lower_before = meet.lower })
      | inl lower ↦ inl (record { upper = one_more (HasUpper cert) k meet.upper upper; lower = one_more (HasLower cert) k meet.lower lower })
    ]
  ]
]

pub has_verdict : HasVerdict
has_verdict cert = grind (arith, nat_tests, below cert cert.graph.vertices (omega arith), below, cert.graph.vertices)

pub verdict_is_certified : VerdictIsCertified
verdict_is_certified cert it both h = grind (arith, nat_tests)
