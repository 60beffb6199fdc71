use Rattle.std.proofs.Common.{ℕ, ◌-◌, ◌≤◌, ◌<◌, length, get_or}
use Rattle.kc_graph.proofs.merging.place_from.Given as goal

abbrev pub invariant-loop-low : goal.invariant-loop-low
invariant-loop-low l = (l.from ≤ l.low) × (l.low ≤ l.high) × (l.high ≤ length l.items) × ((k : ℕ) → l.from ≤ k → k < l.low → get_or l.items k 0 < l.x) × (l.high < length l.items → l.x ≤ get_or l.items l.high 0)

abbrev pub decreases-loop-low : goal.decreases-loop-low
decreases-loop-low l = l.high - l.low
