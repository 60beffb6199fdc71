use Rattle.std.proofs.Common.{arith}
use Rattle.kc_session.proofs.SumLemmas.{greatest_next, greatest_all}
use Rattle.kc_session.proofs.ended.greatest.Goals as goal

pub loop-level-preserved : goal.loop-level-preserved
loop-level-preserved c = greatest_next c.args.levels.now c.loop-level.level-index _ c.loop-level.top _ c.loop-level-test.true c.loop-level.invariant c.greater-top.ensures

pub returns : goal.returns
returns c = let last = c.loop-level-test.false in let below = c.loop-level.auto.level-index-end in greatest_all c.args.levels.now c.loop-level.level-index c.loop-level.top (omega (arith, last, below)) c.loop-level.invariant
