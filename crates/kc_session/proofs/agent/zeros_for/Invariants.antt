use Rattle.std.proofs.Common.{◌≡◌}
use Rattle.kc_history.specs.Replies.{zeros}
use Rattle.kc_session.specs.Agents.{repeated}
use Rattle.kc_session.proofs.agent.zeros_for.Given as goal

abbrev pub invariant-loop-turn : goal.invariant-loop-turn
invariant-loop-turn l = l.replies.items ≡ zeros (repeated l._turn l.ask.vertices)
