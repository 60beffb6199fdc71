use Rattle.std.proofs.Common.{arith}
use Rattle.kc_graph.specs.private.HalfLists.{halves_of}
use Rattle.kc_graph.proofs.HalfLemmas.{taken_one}
use Rattle.kc_graph.proofs.rows.Row.remove_all.Goals as goal

pub returns-then-len-eq1-clause-value : goal.returns-then-len-eq1-clause-value
returns-then-len-eq1-clause-value c =
    taken_one c.args.self.now c.remove.new.self (halves_of c.args.outgoing) c.other_at.result (omega (arith, c.if-len-eq1.true, c.len.ensures)) (omega (arith, c.if-len-eq1.true, c.len.ensures)) c.other_at.ensures c.remove.ensures.value
