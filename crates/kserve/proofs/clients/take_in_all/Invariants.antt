use Rattle.std.proofs.Common.{◌≡◌, ◌++◌}
use Rattle.kserve.specs.private.Clients.{AreTakenIn}
use Rattle.kserve.proofs.clients.take_in_all.Given as goal

abbrev pub invariant-loop-client : goal.invariant-loop-client
invariant-loop-client g l =
    (goal.iterator-loop-client g).can_next l.client-iterator ×
    (goal.iterator-loop-client g).is_finite l.client-iterator ×
    (l.drainer.intake ≡ l.intake) × (l.drainer.taken ≡ l.fn.drainer.taken) × AreTakenIn l.fn.drainer.taken l.yielded × (l.yielded ++ l.client-iterator.rest.items ≡ l.fn.clients.items)
