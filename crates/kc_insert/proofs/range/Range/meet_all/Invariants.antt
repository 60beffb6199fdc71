use Rattle.std.proofs.Common.{take}
use Rattle.kc_insert.specs.private.Parts.{HaveMet}
use Rattle.kc_insert.proofs.range.Range.meet_all.Given as goal

abbrev pub invariant-loop-v : goal.invariant-loop-v
invariant-loop-v l = HaveMet l.level l.most (take l.v-index l.vertices) l.initial.self l.self
