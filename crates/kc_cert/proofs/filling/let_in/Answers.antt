use Rattle.std.proofs.Common.{arith}
use Rattle.std.proofs.lemmas.Bool.Decides.{nat_tests}
use Rattle.kc_cert.proofs.EdgeSteps.{rest_ascends, rest_is_absent, let_in_edges}
use Rattle.kc_cert.proofs.filling.let_in.Goals as goal

pub insert_all-requires-clause-ascending : goal.insert_all-requires-clause-ascending
insert_all-requires-clause-ascending c = rw c.as_slice.ensures.value (rest_ascends _ _ _ _ _ c.requires.ascending)

pub insert_all-requires-clause-absent : goal.insert_all-requires-clause-absent
insert_all-requires-clause-absent c = rw c.as_slice.ensures.value (rest_is_absent c.args.graph.now c.args.waiting.now.items c.requires.ascending)

pub returns-clause-vertices : goal.returns-clause-vertices
returns-clause-vertices c = grind (arith, nat_tests, let_in_edges, c.as_slice.ensures.value, c.in_ok-insert_all.ensures.ok, c.requires.ascending)

pub returns-clause-edges : goal.returns-clause-edges
returns-clause-edges c = grind (arith, nat_tests, let_in_edges, c.as_slice.ensures.value, c.in_ok-insert_all.ensures.ok, c.requires.ascending)
