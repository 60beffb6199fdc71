use Rattle.kc_session.proofs.AskingLemmas.{repeated_more}
use Rattle.kc_session.proofs.agent.zeros_for.Goals as goal

pub loop-turn-preserved : goal.loop-turn-preserved
loop-turn-preserved c = repeated_more c.loop-turn._turn c.args.ask.now.vertices _ _ c.loop-turn.invariant (rw c.as_slice.ensures at c.in_ok-push_zeros.ensures)
