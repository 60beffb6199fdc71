use Rattle.std.proofs.Common.{◌≡◌}
use Rattle.kc_levels.specs.Moved.{moves_between}
use Rattle.kc_groups.proofs.moved.list_run.Given as goal

abbrev pub invariant-loop-v : goal.invariant-loop-v
invariant-loop-v l = l.moves ≡ moves_between l.v l.before l.after
