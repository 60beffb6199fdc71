-- The verdict of a certificate.
use Rattle.std.specs.Prelude.{ℕ, ◌<◌}
use Rattle.kc_levels.specs.LevelList.{MeetsUpper, MeetsLower}
use Rattle.kc_cert.specs.declared.certificate.Certificate.{Certificate}
use Rattle.kc_cert.specs.declared.verdict.Verdict.{Verdict}
use Rattle.kc_cert.specs.declared.verdict.Verdict.TheVariants.{Certified, Upper, Lower}

-- the vertex meets the upper invariant
abbrev pub HasUpper : Certificate → ℕ → Type 0
HasUpper cert v = MeetsUpper cert.profile cert.graph cert.levels v

-- the vertex meets the lower invariant
abbrev pub HasLower : Certificate → ℕ → Type 0
HasLower cert v = MeetsLower cert.profile cert.graph cert.levels v

-- each vertex meets both
pub record MeetThroughout (cert : Certificate) : Type 0 where
  pub upper : (v : ℕ) → v < cert.graph.vertices → HasUpper cert v
  pub lower : (v : ℕ) → v < cert.graph.vertices → HasLower cert v

-- v is the least vertex that breaks an invariant, and breaks this one
pub record IsFirstBreach (cert : Certificate) (v : ℕ) (Meets : ℕ → Type 0) : Type 0 where
  pub vertex : v < cert.graph.vertices
  pub breaks : ¬ (Meets v)
  pub upper_before : (w : ℕ) → w < v → HasUpper cert w
  pub lower_before : (w : ℕ) → w < v → HasLower cert w

-- the meaning of a verdict
abbrev pub IsVerdict : Certificate → Verdict → Type 0
IsVerdict cert Certified = MeetThroughout cert
IsVerdict cert (Upper v) = IsFirstBreach cert v (HasUpper cert)
IsVerdict cert (Lower v) = IsFirstBreach cert v (HasLower cert)
