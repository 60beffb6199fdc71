use Rattle.std.proofs.Common.{◌-◌, ◌≡◌, ◌≤◌}
use Rattle.kc_levels.specs.Moved.{moves_between}
use Rattle.kc_groups.proofs.moved.find_moves.Given as goal

abbrev pub invariant-loop-from : goal.invariant-loop-from
invariant-loop-from l = (l.from ≤ l.n) × (l.moves ≡ moves_between l.from l.before l.after)

abbrev pub decreases-loop-from : goal.decreases-loop-from
decreases-loop-from l = l.n - l.from
