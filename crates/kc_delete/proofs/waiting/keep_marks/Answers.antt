use Rattle.std.proofs.Common.{arith}
use Rattle.std.proofs.lemmas.List.{length-set, take_all}
use Rattle.std.proofs.lemmas.Bool.Decides.{nat_tests}
use Rattle.kc_delete.proofs.WaitingLemmas.{cleared_more, marked_more}
use Rattle.kc_delete.proofs.waiting.keep_marks.Goals as goal

pub loop-v-preserved : goal.loop-v-preserved
loop-v-preserved c = grind (arith, nat_tests, length-set, cleared_more, c.loop-v.invariant.sized, c.requires.candidates, c.loop-v-test.true, c.loop-v.invariant.marks)

pub loop-v-2-preserved : goal.loop-v-2-preserved
loop-v-2-preserved c = grind (arith, nat_tests, length-set, marked_more, c.loop-v-2.invariant.sized, c.loop-v.invariant.sized, c.requires.movers, c.loop-v-2-test.true, c.loop-v-2.invariant.marks)

pub returns-clause-marks : goal.returns-clause-marks
returns-clause-marks c = grind (arith, nat_tests, take_all, c.loop-v.invariant.marks, c.loop-v-2.invariant.marks)
