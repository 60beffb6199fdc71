use Rattle.std.proofs.Common.{sym, ap, ◌∙◌}
use Rattle.kc_intake.specs.Views.{client_role, submitted}
use Rattle.kc_intake.proofs.Sending.{sends_from, seen}
use Rattle.kc_intake.proofs.Shapes.{client_stays, held_as, stays_as}
use Rattle.kc_intake.proofs.intake.Intake.submit.Goals as goal

pub push_as-requires-clause-rule : goal.push_as-requires-clause-rule
push_as-requires-clause-rule g c = (sends_from _ _ _ _ _ c.client.invariant.0.role_is (sym c.client.invariant.1) (sym c.client.invariant.2) (stays_as _ _ _ _ _ _ (sym c.self.invariant.0 ∙ ap (λ z. z.capacity) c.self.view_is) (ap submitted c.client.view_is) c.requires.invariant), seen _ _ _)

pub returns-in-Err-clause-full : goal.returns-in-Err-clause-full
returns-in-Err-clause-full g c = (
  client_stays c.client.inside.pass c.push_as.new.pass _ c.client.view_is c.in-Err.ensures.queue.0 c.in-Err.ensures.rule.1,
  held_as _ _ _ _ _ (sym c.self.invariant.0 ∙ ap (λ z. z.capacity) c.self.view_is) (c.client.invariant.0.role_is ∙ ap client_role c.client.view_is) c.in-Err.ensures.rule.2,
)
