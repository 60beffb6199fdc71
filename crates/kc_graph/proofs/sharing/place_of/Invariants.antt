use Rattle.std.proofs.Common.{◌-◌, ◌≤◌}
use Rattle.kc_graph.proofs.sharing.place_of.Given as goal

abbrev pub invariant-loop-from : goal.invariant-loop-from
invariant-loop-from l = (l.low ≤ l.from) × (l.from ≤ l.to) × (l.to ≤ l.high)

abbrev pub decreases-loop-from : goal.decreases-loop-from
decreases-loop-from l = l.to - l.from
