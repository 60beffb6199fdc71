use Rattle.std.proofs.Common.{◌≡◌, ◌+◌, drop}
use Rattle.kc_adj.specs.private.Lifting.{lift_cost}
use Rattle.kc_adj.proofs.lifting.count_steps.Given as goal

abbrev pub invariant-loop-v : goal.invariant-loop-v
invariant-loop-v g l = l.steps + lift_cost l.lift (drop l.v-index l.vertices) ≡ l.initial.steps + lift_cost l.lift l.vertices
