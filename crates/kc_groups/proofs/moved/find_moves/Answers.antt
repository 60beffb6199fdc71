use Rattle.std.proofs.Common.{◌≤◌, ◌∙◌, ap, map, arith}
use Rattle.kc_levels.specs.Moved.{is_moved, move_of}
use Rattle.kc_groups.proofs.MovedLemmas.{moved_past, still_between}
use Rattle.kc_groups.proofs.moved.find_moves.Goals as goal

pub loop-from-preserved : goal.loop-from-preserved
loop-from-preserved c =
    let x = c.args.before.now in
    let y = c.args.after.now in
    let further : c.loop-from.from ≤ c.min-to.result = omega arith in
    (omega arith, c.loop-from.invariant.1 ∙ ap (map (move_of x y)) (moved_past (is_moved x y) c.loop-from.from c.min-to.result further (still_between x y c.loop-from.from c.min-to.result c.if-ne.ensures)))
