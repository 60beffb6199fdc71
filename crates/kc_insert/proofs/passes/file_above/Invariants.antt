use Rattle.kc_insert.specs.private.Crossing.{above_near}
use Rattle.kc_insert.proofs.Beginning.{IsBeginning}
use Rattle.kc_insert.proofs.passes.file_above.Given as goal

abbrev pub invariant-loop-i : goal.invariant-loop-i
invariant-loop-i l = IsBeginning l.step l.v l.i (above_near l.step l.v) l.initial.told l.told l.initial.meetings l.meetings
