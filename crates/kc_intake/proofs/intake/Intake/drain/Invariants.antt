use Rattle.std.proofs.Common.{◌≡◌, ◌≤◌, ◌<◌, ◌-◌, [], ◌∷◌, ◌++◌, All}
use Rattle.std.specs.Prelude.{vec_len, vec_capacity}
use Rattle.kc_intake.specs.Causes.{HoldsOf}
use Rattle.kc_intake.specs.Updates.{AreNumbered, all_updates}
use Rattle.kc_intake.specs.Views.{drainer_shape, IsDrainer}
use Rattle.kc_intake.proofs.intake.Intake.drain.Given as goal

abbrev pub invariant-loop-self : goal.invariant-loop-self
invariant-loop-self g l = record {
  shape : drainer_shape l.drainer-inside.pass l.drainer-inside.batch.items ≡ record l.fn.drainer { batch = l.drainer-inside.batch.items; taken = l.fn.drainer.taken ++ l.drainer-inside.batch.items ∷ [] };
  drainer : IsDrainer l.drainer-inside.pass;
  some : 1 ≤ vec_len l.drainer-inside.batch;
  few : vec_len l.drainer-inside.batch ≤ l.self.capacity;
  room : l.self.capacity ≤ vec_capacity l.drainer-inside.batch;
  clients : All (λ u. u.client < l.fn.drainer.clients) l.drainer-inside.batch.items;
  serials : AreNumbered (l.fn.drainer.taken ++ l.drainer-inside.batch.items ∷ []);
  invariant : HoldsOf g.I.Invariant.holds (all_updates (l.fn.drainer.taken ++ l.drainer-inside.batch.items ∷ []));
}

abbrev pub decreases-loop-self : goal.decreases-loop-self
decreases-loop-self g l = l.self.capacity - vec_len l.drainer-inside.batch
