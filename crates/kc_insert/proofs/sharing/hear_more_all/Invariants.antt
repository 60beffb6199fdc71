use Rattle.std.proofs.Common.{take}
use Rattle.kc_insert.specs.private.Sharing.{HearMore}
use Rattle.kc_insert.proofs.sharing.hear_more_all.Given as goal

abbrev pub invariant-loop-v : goal.invariant-loop-v
invariant-loop-v l = HearMore l.layout.width l.level l.most (take l.v-index l.told) l.initial.items l.items
