use Rattle.kc_insert.proofs.Beginners.{IsStarting}
use Rattle.kc_insert.proofs.ranges.lift_each.Given as goal

abbrev pub invariant-loop-v : goal.invariant-loop-v
invariant-loop-v l = IsStarting l.level l.initial.levels l.levels l.vertices l.layout.width l.v-index l.count l.initial.items l.items
