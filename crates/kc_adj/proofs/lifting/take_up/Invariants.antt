use Rattle.std.proofs.Common.{drop}
use Rattle.kc_adj.specs.private.Lifting.{AreTakenUp}
use Rattle.kc_adj.proofs.lifting.take_up.Given as goal

abbrev pub invariant-loop-v : goal.invariant-loop-v
invariant-loop-v l = AreTakenUp l.new (drop l.v-index l.vertices) l.levels
