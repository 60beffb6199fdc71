use Rattle.std.proofs.Common.{◌≡◌, ◌+◌, drop}
use Rattle.kc_adj.specs.private.Lifting.{lift_cost, IsLifting}
use Rattle.kc_adj.proofs.lifting.lift_counts.Given as goal

abbrev pub invariant-loop-i : goal.invariant-loop-i
invariant-loop-i g l =
    IsLifting l.lift 0 (drop l.i l.vertices) l.counts.own.items
    × IsLifting l.lift 1 (drop l.i l.vertices) l.counts.below.items
    × (l.steps + lift_cost l.lift (drop l.i l.vertices) ≡ l.initial.steps + lift_cost l.lift l.vertices)
