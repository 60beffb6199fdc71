use Rattle.std.proofs.Common.{take}
use Rattle.kc_insert.specs.private.Telling.{AreDealt}
use Rattle.kc_insert.proofs.telling.deal_each.Given as goal

abbrev pub invariant-loop-v : goal.invariant-loop-v
invariant-loop-v l = AreDealt l.layout.width (take l.v-index l.vertices) l.initial.lists l.lists
