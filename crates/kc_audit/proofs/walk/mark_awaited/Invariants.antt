use Rattle.std.proofs.Common.{◌≡◌, ◌≤◌, ◌<◌, ℕ, get_or, length, true, false, []}
use Rattle.kc_audit.specs.private.Walks.{reply_at}
use Rattle.kc_audit.proofs.walk.mark_awaited.Given as goal

abbrev pub invariant-loop-reader : goal.invariant-loop-reader
invariant-loop-reader l = record {
  awaited : (r : ℕ) → r < l.reader → get_or l.passed r 0 < length (get_or l.readers r []) → get_or l.awaited (reply_at (get_or l.readers r []) (get_or l.passed r 0)).vertex false ≡ true;
  none : l.waits ≡ false → (r : ℕ) → r < l.reader → length (get_or l.readers r []) ≤ get_or l.passed r 0;
}
