use Rattle.std.proofs.Common.{take}
use Rattle.kc_insert.proofs.Stopping.{AreStopped}
use Rattle.kc_insert.proofs.sweep.stop_listed.Given as goal

abbrev pub invariant-loop-v : goal.invariant-loop-v
invariant-loop-v l = AreStopped l.initial.levels l.levels (take l.v-index l.vertices)
