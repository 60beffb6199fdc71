use Rattle.std.proofs.Common.{◌≡◌}
use Rattle.kc_insert.specs.Working.{IsReady}
use Rattle.graph_tests.proofs.tests.insert.come_in_counted.Given as goal

abbrev pub invariant-loop-batch : goal.invariant-loop-batch
invariant-loop-batch g l = (l.th.vertices ≡ l.adj.graph.vertices) × IsReady l.th.profile l.adj l.work
