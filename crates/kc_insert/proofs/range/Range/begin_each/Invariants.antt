use Rattle.std.proofs.Common.{take}
use Rattle.kc_insert.proofs.Beginning.{AreBegun, KeepsRest}
use Rattle.kc_insert.proofs.Rows.{AreSteps}
use Rattle.kc_insert.proofs.range.Range.begin_each.Given as goal

abbrev pub invariant-loop-i : goal.invariant-loop-i
invariant-loop-i l =
    KeepsRest l.initial.self-inside l.self-inside
    × AreBegun l.step (take l.i l.initial.self-inside.begun.items) l.initial.self-inside.told l.self-inside.told l.initial.self-inside.meetings l.self-inside.meetings l.initial.self-inside.watched l.self-inside.watched
    × AreSteps l.step.graph l.initial.self-inside.begun.items l.i l.steps
