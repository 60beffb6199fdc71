use Rattle.std.proofs.Common.{refl}
use Rattle.kc_session.proofs.AskingLemmas.{zeros_more}
use Rattle.kc_session.proofs.agent.push_zeros.Goals as goal

pub loop-v-preserved : goal.loop-v-preserved
loop-v-preserved c = zeros_more c.args.vertices.now c.loop-v.v-index 0 _ _ _ _ c.loop-v-test.true refl c.loop-v.invariant c.in_ok-push.ensures.items
