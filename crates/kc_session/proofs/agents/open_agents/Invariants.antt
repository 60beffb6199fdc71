use Rattle.std.proofs.Common.{◌≡◌, ◌++◌}
use Rattle.kc_session.specs.Asking.{agents_for}
use Rattle.kc_session.proofs.agents.open_agents.Given as goal

abbrev pub invariant-loop-ask : goal.invariant-loop-ask
invariant-loop-ask l =
    (goal.iterator-loop-ask).can_next l.ask-iterator ×
    (goal.iterator-loop-ask).is_finite l.ask-iterator ×
    (l.writer ≡ l.fn.writer) × (l.agents.items ≡ agents_for l.store l.fn.writer.state.history 0 l.yielded) × (l.yielded ++ l.ask-iterator.rest.items ≡ l.fn.asks)
