use Rattle.std.proofs.Common.{arith}
use Rattle.std.proofs.lemmas.Bool.Decides.{nat_tests}
use Rattle.kc_store.proofs.Shows.{lent_none, lent_end, lent_more}
use Rattle.kc_store.proofs.marker.Marker.mark_all.Goals as goal

pub loop-i-init : goal.loop-i-init
loop-i-init c = grind (arith, nat_tests, lent_none, c.range-from.ensures)

pub loop-i-preserved : goal.loop-i-preserved
loop-i-preserved c = grind (arith, nat_tests, lent_more, c.loop-i.invariant, c.range-from.ensures, c.loop-i-test.true, c.mark.ensures, c.requires.plan)

pub returns-clause-marked : goal.returns-clause-marked
returns-clause-marked c = grind (arith, nat_tests, lent_end, c.loop-i.invariant, c.range-from.ensures, c.loop-i-test.false)
