use Rattle.std.proofs.Common.{◌≡◌, ◌<◌, ℕ, get_or, length, []}
use Rattle.kc_audit.proofs.walk.verdict_of.Given as goal

abbrev pub invariant-loop-reader : goal.invariant-loop-reader
invariant-loop-reader l = (r : ℕ) → r < l.reader → get_or l.passed r 0 ≡ length (get_or l.readers r [])
