use Rattle.std.proofs.Common.{take}
use Rattle.kc_insert.specs.private.Telling.{heard_by}
use Rattle.kc_insert.specs.private.Parts.{HaveMet}
use Rattle.kc_insert.proofs.range.Range.hear_more.Given as goal

abbrev pub invariant-loop-i : goal.invariant-loop-i
invariant-loop-i l = HaveMet l.level l.most (heard_by l.own (take l.i l.told)) l.initial.self l.self
