use Rattle.kc_insert.proofs.Halting.{IsHalting}
use Rattle.kc_insert.proofs.ranges.stop_each.Given as goal

abbrev pub invariant-loop-i : goal.invariant-loop-i
invariant-loop-i l = IsHalting l.initial.levels l.levels l.i l.count l.initial.items l.items
