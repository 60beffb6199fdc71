use Rattle.kc_insert.proofs.Making.{IsMaking}
use Rattle.kc_insert.proofs.ranges.Ranges.new.Given as goal

abbrev pub invariant-loop-i : goal.invariant-loop-i
invariant-loop-i l = IsMaking l.layout.width l.counts l.levels l.ranges l.i l.items.items l.told.items
