use Rattle.std.proofs.Common.{arith}
use Rattle.std.proofs.lemmas.Bool.Decides.{nat_tests}
use Rattle.kc_store.proofs.Shows.{lent_none_cleared, lent_end_cleared, lent_more_cleared}
use Rattle.kc_store.proofs.marker.Marker.clear_all.Goals as goal

pub loop-i-init : goal.loop-i-init
loop-i-init c = grind (arith, nat_tests, lent_none_cleared, c.range-from.ensures)

pub loop-i-preserved : goal.loop-i-preserved
loop-i-preserved c = grind (arith, nat_tests, lent_more_cleared, c.loop-i.invariant, c.range-from.ensures, c.loop-i-test.true, c.clear.ensures, c.requires.plan)

pub returns-clause-cleared : goal.returns-clause-cleared
returns-clause-cleared c = grind (arith, nat_tests, lent_end_cleared, c.loop-i.invariant, c.range-from.ensures, c.loop-i-test.false)
