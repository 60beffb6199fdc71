use Rattle.std.proofs.Common.{◌≡◌}
use Rattle.kc_delete.specs.Working.{IsReady}
use Rattle.graph_tests.proofs.tests.delete.leave_counted.Given as goal

abbrev pub invariant-loop-batch : goal.invariant-loop-batch
invariant-loop-batch g l = (l.th.vertices ≡ l.adj.graph.vertices) × IsReady l.adj l.work
