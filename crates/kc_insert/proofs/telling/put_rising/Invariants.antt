use Rattle.std.proofs.Common.{◌≡◌, ◌+◌, ◌-◌, ◌≤◌, ◌++◌, filter, length, take}
use Rattle.kc_insert.specs.private.Rising.{rises}
use Rattle.kc_insert.proofs.telling.put_rising.Given as goal

abbrev pub invariant-loop-w : goal.invariant-loop-w
invariant-loop-w l =
    (take l.end l.items ≡ take l.start l.initial.items ++ filter (rises l.levels) (take l.w-index l.row))
    × (l.end + (length l.row - l.w-index) ≤ length l.items)
