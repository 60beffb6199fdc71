use Rattle.std.proofs.Common.{◌+◌, take}
use Rattle.kc_insert.specs.private.Sharing.{HearMore, told_all}
use Rattle.kc_insert.proofs.sharing.hear_more.Given as goal

abbrev pub invariant-loop-i : goal.invariant-loop-i
invariant-loop-i g l = HearMore l.step.width (l.step.level + 1) l.most (told_all (take l.i l.told)) l.initial.items l.items
