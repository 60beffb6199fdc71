use Rattle.std.proofs.Common.{take}
use Rattle.kc_insert.specs.private.Sharing.{HearLess}
use Rattle.kc_insert.proofs.sharing.hear_less_all.Given as goal

abbrev pub invariant-loop-v : goal.invariant-loop-v
invariant-loop-v l = HearLess l.layout.width (take l.v-index l.told) l.initial.items l.items
