use Rattle.std.proofs.Common.{◌≡◌, [], ◌∷◌, ◌++◌, refl, sym, ap, ◌∙◌, arith}
use Rattle.std.proofs.lemmas.Grind.{common_steps}
use Rattle.kc_intake.specs.Views.{drained_of}
use Rattle.kc_intake.specs.declared.roles.Role.TheVariants.{Drains}
use Rattle.kc_intake.proofs.Draining.{begins_from, adds_from, learns_from}
use Rattle.kc_intake.proofs.Shapes.{drainer_stays, held_as, held_told, held_whole, held_empty, added}
use Rattle.kc_intake.proofs.intake.Intake.drain.Goals as goal

pub pop_as-requires-clause-rule : goal.pop_as-requires-clause-rule
pop_as-requires-clause-rule g c = (begins_from _ _ _ c.drainer.invariant.0.role_is c.requires.invariant, learns_from _ _ _ c.drainer.invariant.0.role_is)

pub returns-in_default-clause-empty : goal.returns-in_default-clause-empty
returns-in_default-clause-empty g c = (
  drainer_stays c.drainer.inside.pass c.pop_as.new.pass c.drainer.inside.batch.items _ _ c.drainer.view_is c.in_default.ensures.queue.0 c.in_default.ensures.rule.0 c.clear.ensures.items,
  (
    held_as _ 0 0 _ _ refl (c.drainer.invariant.0.role_is ∙ ap (λ v. Drains (drained_of v)) (sym c.in_default.ensures.rule.0)) (held_told _ 0 _ c.in_default.ensures.rule.1),
    held_whole _ c.pop_as.new.pass c.clear.new.self.items _ c.in_default.ensures.rule.0 c.in_default.ensures.rule.1,
    held_empty _ c.pop_as.new.pass _ c.in_default.ensures.rule.0 c.in_default.ensures.rule.1,
  ),
)

pub pop_as-requires-in-loop-self-clause-rule : goal.pop_as-requires-in-loop-self-clause-rule
pop_as-requires-in-loop-self-clause-rule g c = (adds_from _ _ _ c.loop-self.invariant.drainer.role_is c.requires.invariant, learns_from _ _ _ c.loop-self.invariant.drainer.role_is)

pub loop-self-preserved : goal.loop-self-preserved
loop-self-preserved g c =
    let i = c.loop-self.invariant in
    let more : c.push-in-loop-self.new.self.items ≡ c.loop-self.drainer-inside.batch.items ++ c.in-Some-pop_as.next ∷ [] = grind (arith, common_steps, c.push-in-loop-self.ensures.items, c.unwrap-in-loop-self.ensures) in
    let now = added _ c.loop-self.drainer-inside.pass c.pop_as-in-loop-self.new.pass _ _ _ c.args.drainer.now i.drainer i.shape c.in-Some-pop_as.ensures.queue c.in-Some-pop_as.ensures.rule more i.clients in record {
      shape = now.0;
      drainer = now.1;
      some = grind (arith, common_steps);
      few = grind (arith, common_steps);
      room = grind (arith, common_steps);
      clients = now.2;
      serials = now.3;
      invariant = now.4;
    }

pub returns-in_default-pop_as-clause-short : goal.returns-in_default-pop_as-clause-short
returns-in_default-pop_as-clause-short g c few = (
  held_as _ 0 0 _ _ refl (c.loop-self.invariant.drainer.role_is ∙ ap (λ v. Drains (drained_of v)) (sym c.in_default-pop_as.ensures.rule.0)) (held_told _ 0 _ c.in_default-pop_as.ensures.rule.1),
  held_whole _ c.pop_as-in-loop-self.new.pass c.loop-self.drainer-inside.batch.items _ c.in_default-pop_as.ensures.rule.0 c.in_default-pop_as.ensures.rule.1,
  held_empty _ c.pop_as-in-loop-self.new.pass _ c.in_default-pop_as.ensures.rule.0 c.in_default-pop_as.ensures.rule.1,
)
