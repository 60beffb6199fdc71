use Rattle.kc_insert.specs.Ranges.{Part}
use Rattle.kc_insert.proofs.Nearest.{IsNearest}
use Rattle.kc_insert.proofs.ranges.Ranges.next_waiting.Given as goal

abbrev pub invariant-loop-range : goal.invariant-loop-range
invariant-loop-range l = IsNearest (λ (p : Part). p.queue) l.items l.range-index l.from l.next
