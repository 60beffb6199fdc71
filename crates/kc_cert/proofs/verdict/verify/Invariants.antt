use Rattle.std.proofs.Common.{ℕ, ◌<◌}
use Rattle.kc_cert.specs.Verdicts.{HasUpper, HasLower}
use Rattle.kc_cert.proofs.verdict.verify.Given as goal

abbrev pub invariant-loop-v : goal.invariant-loop-v
invariant-loop-v l = record {
  upper : (w : ℕ) → w < l.v → HasUpper l.cert w;
  lower : (w : ℕ) → w < l.v → HasLower l.cert w;
}
