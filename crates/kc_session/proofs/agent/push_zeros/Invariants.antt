use Rattle.std.proofs.Common.{◌≡◌, ◌++◌, take}
use Rattle.kc_history.specs.Replies.{zeros}
use Rattle.kc_session.proofs.agent.push_zeros.Given as goal

abbrev pub invariant-loop-v : goal.invariant-loop-v
invariant-loop-v l = l.replies.items ≡ l.fn.replies.items ++ zeros (take l.v-index l.vertices)
