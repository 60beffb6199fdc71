use Rattle.kc_intake.proofs.Draining.{learns_from}
use Rattle.kc_intake.proofs.Joining.{merges_from}
use Rattle.kc_intake.proofs.Shapes.{joined_now, joined_prefix}
use Rattle.kc_intake.proofs.intake.Intake.take_in.Goals as goal

pub absorb-requires-clause-rule : goal.absorb-requires-clause-rule
absorb-requires-clause-rule g c = merges_from _ _ _ _ _ c.drainer.invariant.0.role_is c.client.invariant.0.role_is

pub learn_as-requires-clause-rule : goal.learn_as-requires-clause-rule
learn_as-requires-clause-rule g c = learns_from _ _ _ (joined_now c.drainer.inside.pass c.absorb.new.pass c.client.inside.pass c.drainer.invariant.0 c.absorb.ensures.queue c.absorb.ensures.rule).0.role_is

pub returns-clause-prefix : goal.returns-clause-prefix
returns-clause-prefix g c = joined_prefix _ c.drainer.inside.pass c.absorb.new.pass c.learn_as.new.pass c.client.inside.pass _
    (joined_now c.drainer.inside.pass c.absorb.new.pass c.client.inside.pass c.drainer.invariant.0 c.absorb.ensures.queue c.absorb.ensures.rule).1
    c.client.view_is c.learn_as.ensures.queue.1 c.learn_as.ensures.rule.0 c.learn_as.ensures.rule.1
