use Rattle.std.proofs.Common.{arith}
use Rattle.graph_tests.proofs.tests.adj.check_lifted.Goals as goal

pub lift_all-requires-clause-moved : goal.lift_all-requires-clause-moved
lift_all-requires-clause-moved g c = λ v lt. rw c.deref.ensures.value (c.vertices_of-vertices.ensures.lifted v (omega (arith, lt)))
