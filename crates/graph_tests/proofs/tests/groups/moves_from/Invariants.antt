use Rattle.std.proofs.Common.{◌≡◌}
use Rattle.kc_levels.specs.Moved.{moves_between}
use Rattle.graph_tests.proofs.tests.groups.moves_from.Given as goal

abbrev pub invariant-loop-v : goal.invariant-loop-v
invariant-loop-v g l = l.moves ≡ moves_between l.v l.before l.after
