use Rattle.std.proofs.Common.{◌≡◌, map, take}
use Rattle.std.specs.List.{flat_map}
use Rattle.kc_adj.specs.private.Passing.{touched_by, visit_of}
use Rattle.kc_adj.proofs.passes.visit_piece.Given as goal

abbrev pub invariant-loop-i : goal.invariant-loop-i
invariant-loop-i l =
    (l.visits.items ≡ map (visit_of l.lift) (take l.i l.piece))
    × (l.touched.items ≡ flat_map (touched_by l.lift) (take l.i l.piece))
