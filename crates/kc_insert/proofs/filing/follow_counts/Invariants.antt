use Rattle.std.proofs.Common.{◌-◌, ◌≤◌}
use Rattle.kc_insert.specs.private.Filed.{HaveFiled}
use Rattle.kc_insert.proofs.filing.follow_counts.Given as goal

abbrev pub invariant-loop-i : goal.invariant-loop-i
invariant-loop-i l =
    (l.i ≤ l.count)
    × HaveFiled l.fresh.profile l.fresh.vertices l.fresh.levels l.fresh.counts l.i l.initial.watched l.watched l.initial.queue l.queue

abbrev pub decreases-loop-i : goal.decreases-loop-i
decreases-loop-i l = l.count - l.i
