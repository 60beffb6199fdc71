use Rattle.std.proofs.Common.{◌≡◌, length}
use Rattle.kc_adj.specs.private.Afresh.{AreCounted}
use Rattle.kc_adj.proofs.afresh.count_piece.Given as goal

abbrev pub invariant-loop-i : goal.invariant-loop-i
invariant-loop-i l =
    AreCounted l.on.graph.now l.on.levels.now 0 l.first l.i l.own
    × AreCounted l.on.graph.now l.on.levels.now 1 l.first l.i l.below
    × (length l.own ≡ length l.fn.own) × (length l.below ≡ length l.fn.own)
