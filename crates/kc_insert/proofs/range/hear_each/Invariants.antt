use Rattle.kc_insert.proofs.Hearing.{IsHeardLess}
use Rattle.kc_insert.proofs.range.hear_each.Given as goal

abbrev pub invariant-loop-i : goal.invariant-loop-i
invariant-loop-i l = IsHeardLess l.own l.told l.i l.initial.watched l.watched
