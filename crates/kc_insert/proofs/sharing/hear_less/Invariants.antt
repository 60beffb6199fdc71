use Rattle.std.proofs.Common.{take}
use Rattle.kc_insert.specs.private.Sharing.{HearLess, told_all}
use Rattle.kc_insert.proofs.sharing.hear_less.Given as goal

abbrev pub invariant-loop-i : goal.invariant-loop-i
invariant-loop-i g l = HearLess l.step.width (told_all (take l.i l.told)) l.initial.items l.items
