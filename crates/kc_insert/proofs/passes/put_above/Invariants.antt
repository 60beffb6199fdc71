use Rattle.std.proofs.Common.{◌+◌, ◌-◌, ◌*◌, ◌≤◌, drop, take, length}
use Rattle.kc_insert.specs.private.Crossing.{count_above, is_above}
use Rattle.kc_insert.proofs.Rows.{IsLookingUp}
use Rattle.kc_insert.proofs.passes.put_above.Given as goal

abbrev pub invariant-loop-w : goal.invariant-loop-w
invariant-loop-w l =
    IsLookingUp (count_above l.step) (is_above l.step) l.step.levels.stored l.row (drop l.w-index l.row) l.above (take l.end l.found)
    × (l.end + 2 * (length l.row - l.w-index) ≤ length l.found)
