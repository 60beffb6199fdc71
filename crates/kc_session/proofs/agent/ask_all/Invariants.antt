use Rattle.kc_session.proofs.AskingLemmas.{IsAsking}
use Rattle.kc_session.proofs.agent.ask_all.Given as goal

abbrev pub invariant-loop-i : goal.invariant-loop-i
invariant-loop-i g l = IsAsking l.store.vertices l.fn.pass l.fn.replies.items l.i l.pass l.replies.items
