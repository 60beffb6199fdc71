use Rattle.std.proofs.Common.{◌≡◌, ◌≤◌, ◌<◌, ℕ, get_or, []}
use Rattle.kc_audit.specs.private.Walks.{GoesOn}
use Rattle.kc_audit.proofs.walk.go_on.Given as goal

abbrev pub invariant-loop-reader : goal.invariant-loop-reader
invariant-loop-reader l = record {
  done : (r : ℕ) → r < l.reader → GoesOn l.levels (get_or l.readers r []) (get_or l.fn.passed r 0) (get_or l.passed r 0);
  left : (r : ℕ) → l.reader ≤ r → get_or l.passed r 0 ≡ get_or l.fn.passed r 0;
}
