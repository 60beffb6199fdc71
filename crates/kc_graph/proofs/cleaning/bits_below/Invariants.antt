use Rattle.std.proofs.Common.{◌≤◌, ◌-◌}
use Rattle.kc_graph.proofs.cleaning.bits_below.Given as goal

abbrev pub invariant-loop-bits : goal.invariant-loop-bits
invariant-loop-bits l = l.bits ≤ 24

abbrev pub decreases-loop-bits : goal.decreases-loop-bits
decreases-loop-bits l = 24 - l.bits
