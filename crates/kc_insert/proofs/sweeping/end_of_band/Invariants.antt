use Rattle.std.proofs.Common.{◌≡◌, ◌<◌, ◌≤◌, ◌-◌}
use Rattle.kc_levels.specs.Thresholds.{group_of}
use Rattle.kc_insert.proofs.sweeping.end_of_band.Given as goal

abbrev pub invariant-loop-first : goal.invariant-loop-first
invariant-loop-first l = (l.low ≤ l.first) × (l.first ≤ l.last) × (l.last < l.high) × (group_of l.th.profile l.th.vertices l.first ≡ group_of l.th.profile l.th.vertices l.low)

abbrev pub decreases-loop-first : goal.decreases-loop-first
decreases-loop-first l = l.last - l.first
