use Rattle.std.proofs.Common.{◌≡◌}
use Rattle.kc_groups.specs.Gathering.{clean}
use Rattle.graph_tests.proofs.tests.groups.check_all.Given as goal

abbrev pub invariant-loop-case : goal.invariant-loop-case
invariant-loop-case g l = l.work ≡ clean l.n
