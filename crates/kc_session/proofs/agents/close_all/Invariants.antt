use Rattle.std.proofs.Common.{◌≡◌, ◌++◌}
use Rattle.kc_session.specs.Asking.{AreClosed}
use Rattle.kc_session.proofs.agents.close_all.Given as goal

abbrev pub invariant-loop-agent : goal.invariant-loop-agent
invariant-loop-agent l =
    (goal.iterator-loop-agent).can_next l.agent-iterator ×
    (goal.iterator-loop-agent).is_finite l.agent-iterator ×
    (l.writer.table ≡ l.fn.writer.table) × (l.writer.state ≡ record l.fn.writer.state { joined = l.writer.state.joined }) × AreClosed l.fn.writer.state.history l.yielded l.lists.items × (l.yielded ++ l.agent-iterator.rest.items ≡ l.fn.agents.items)
