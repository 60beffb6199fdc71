use Rattle.std.proofs.Common.{◌≡◌, [], ◌∷◌, ◌++◌, ap, ◌∙◌, arith}
use Rattle.std.proofs.lemmas.Grind.{common_steps}
use Rattle.kc_intake.specs.Views.{intake_of, client_shape}
use Rattle.kc_intake.proofs.Joining.{opens, forks_from}
use Rattle.kc_intake.proofs.Shapes.{client_came}
use Rattle.kc_intake.proofs.intake.Intake.open_with.Goals as goal

pub ruled-requires-clause-rule : goal.ruled-requires-clause-rule
ruled-requires-clause-rule g c = opens _ c.requires.invariant

pub another-requires-clause-rule : goal.another-requires-clause-rule
another-requires-clause-rule g c = forks_from _ _ _ c.loop-number.invariant.0.role_is

pub loop-number-preserved : goal.loop-number-preserved
loop-number-preserved g c =
    let i = c.loop-number.invariant in
    let more : c.push.new.self.items ≡ c.loop-number.opened.items ++ client_shape c.another.result ∷ [] = grind (arith, common_steps, c.push.ensures.items, c.unwrap.ensures) in
    let now = client_came c.loop-number.pass c.another.new.pass c.another.result _ _ _ _ i.0 c.another.ensures.queue.0 c.another.ensures.rule.0 i.2 c.another.ensures.rule.1 (ap intake_of c.another.ensures.queue.1.0) i.3 more in
    (now.0, c.another.ensures.queue.0.0 ∙ i.1, now.1, now.2, grind (arith, common_steps), grind (arith, common_steps))
