use Rattle.std.proofs.Common.{◌≡◌, ◌+◌, drop, take, length}
use Rattle.std.specs.List.{flat_map}
use Rattle.kc_adj.specs.private.Lifting.{lift_cost, IsLifting}
use Rattle.kc_adj.specs.private.Passing.{touched_by}
use Rattle.kc_adj.proofs.passes.write_down.Given as goal

abbrev pub invariant-loop-i : goal.invariant-loop-i
invariant-loop-i g l =
    IsLifting l.lift 0 (drop l.i l.vertices) l.counts.own.items
    × IsLifting l.lift 1 (drop l.i l.vertices) l.counts.below.items
    × (l.place ≡ length (flat_map (touched_by l.lift) (take l.i (take (length l.passed.visits.items) l.vertices))))
    × (l.steps + lift_cost l.lift (drop l.i l.vertices) ≡ l.initial.steps + lift_cost l.lift l.vertices)
