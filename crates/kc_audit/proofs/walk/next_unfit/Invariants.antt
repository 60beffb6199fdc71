use Rattle.std.proofs.Common.{◌≡◌, ◌≤◌, ◌<◌, ℕ, get_or}
use Rattle.kc_audit.specs.private.Walks.{reply_at}
use Rattle.kc_audit.proofs.walk.next_unfit.Given as goal

abbrev pub invariant-loop-at : goal.invariant-loop-at
invariant-loop-at l = (k : ℕ) → l.from ≤ k → k < l.at → get_or l.levels (reply_at l.replies k).vertex 0 ≡ (reply_at l.replies k).level
