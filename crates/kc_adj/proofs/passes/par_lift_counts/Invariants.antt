use Rattle.std.proofs.Common.{◌≡◌, ◌+◌, ◌*◌, drop}
use Rattle.kc_adj.specs.private.Lifting.{lift_cost, IsLifting}
use Rattle.kc_adj.proofs.passes.par_lift_counts.Given as goal

abbrev pub invariant-loop-piece : goal.invariant-loop-piece
invariant-loop-piece g l =
    (l.rest ≡ drop (l.piece-index * l.size) l.vertices)
    × IsLifting l.lift 0 (drop (l.piece-index * l.size) l.vertices) l.counts.own.items
    × IsLifting l.lift 1 (drop (l.piece-index * l.size) l.vertices) l.counts.below.items
    × (l.steps + lift_cost l.lift (drop (l.piece-index * l.size) l.vertices) ≡ l.initial.steps + lift_cost l.lift l.vertices)
