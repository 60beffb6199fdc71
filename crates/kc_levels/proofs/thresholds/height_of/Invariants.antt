use Rattle.std.proofs.Common.{◌≡◌, ◌<◌, ◌≤◌, ◌-◌, ◌+◌, ℕ}
use Rattle.kc_levels.specs.Thresholds.{grow}
use Rattle.kc_levels.proofs.thresholds.height_of.Given as goal

abbrev pub invariant-loop-grown : goal.invariant-loop-grown
invariant-loop-grown l = (l.grown ≡ grow l.profile l.height) × ((i : ℕ) → i < l.height → grow l.profile i ≤ l.n)

abbrev pub decreases-loop-grown : goal.decreases-loop-grown
decreases-loop-grown l = l.n + 1 - l.grown
