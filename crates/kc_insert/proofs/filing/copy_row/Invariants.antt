use Rattle.std.proofs.Common.{ℕ, ◌≢◌, take}
use Rattle.std.specs.List.{All}
use Rattle.kc_insert.specs.private.Filed.{AreCopied}
use Rattle.kc_insert.proofs.filing.copy_row.Given as goal

abbrev pub invariant-loop-w : goal.invariant-loop-w
invariant-loop-w l = AreCopied l.fresh.counts.now (λ u. (u ≢ l.v) × All (λ (w : ℕ). u ≢ w) (take l.w-index l.w-items)) l.fn.ranges l.ranges
