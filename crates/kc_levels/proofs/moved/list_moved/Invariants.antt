use Rattle.std.proofs.Common.{◌≡◌}
use Rattle.kc_levels.specs.Moved.{is_moved, moved_below}
use Rattle.kc_levels.proofs.moved.list_moved.Given as goal

abbrev pub invariant-loop-v : goal.invariant-loop-v
invariant-loop-v l = l.moved.items ≡ moved_below (is_moved l.before l.after) l.v
