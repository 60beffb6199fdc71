use Rattle.std.proofs.Common.{◌*◌, min, length}
use Rattle.kc_groups.specs.private.Forest.{AreGathered}
use Rattle.kc_groups.specs.private.Gathering.{in_piece}
use Rattle.kc_groups.specs.Gathering.{vertices}
use Rattle.kc_groups.proofs.pieces.gather_rows.Given as goal

abbrev pub invariant-loop-own : goal.invariant-loop-own
invariant-loop-own g l =
    AreGathered (length l.moves) (in_piece l.graph (vertices l.moves) 0 (min (l.own-index * l.size) l.half)) l.parents
