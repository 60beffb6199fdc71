use Rattle.std.proofs.Common.{◌≡◌, ◌∙◌, ap, subst, List, length, arith}
use Rattle.std.proofs.lemmas.Grind.{common_steps}
use Rattle.std.proofs.lemmas.List.Elements.{All-push}
use mathlib.Core.List.{IsPrefix}
use Rattle.kc_intake.specs.declared.updates.Update.{Update}
use Rattle.kc_intake.specs.Updates.{updates_of, updates_in, all_updates}
use Rattle.kc_intake.specs.Views.{ClientShape, DrainerShape, submitted}
use Rattle.kserve.proofs.ClientLemmas.{moved_over, all_over, next_of_all}
use Rattle.kserve.specs.private.Clients.{AreTakenIn}
use Rattle.kserve.proofs.clients.take_in_all.Goals as goal

pub take_in-requires-clause-intake : goal.take_in-requires-clause-intake
take_in-requires-clause-intake g c κs within = (
  c.loop-client.invariant.2,
  next_of_all (λ (client : ClientShape). client.intake ≡ c.args.intake.now) c.args.clients.items c.loop-client.yielded c.loop-client.client-iterator.rest.items c.next.new.self.rest.items c.in-Some.client c.requires.clients c.loop-client.invariant.5 c.in-Some.ensures.steps.0,
)

pub loop-client-preserved : goal.loop-client-preserved
loop-client-preserved g c =
    let same = c.take_in.ensures.same in
    let taken : c.take_in.new.drainer.taken ≡ c.args.drainer.now.taken = ap (λ (d : DrainerShape). d.taken) same ∙ c.loop-client.invariant.3 in (
      tt,
      tt,
      ap (λ (d : DrainerShape). d.intake) same ∙ c.loop-client.invariant.2,
      taken,
      All-push (λ (client : ClientShape). IsPrefix (updates_of client.number (all_updates c.args.drainer.now.taken)) (updates_in (submitted client))) c.loop-client.yielded c.in-Some.client c.loop-client.invariant.4
          (subst (λ (bs : List (List Update)). IsPrefix (updates_of c.in-Some.client.number (all_updates bs)) (updates_in (submitted c.in-Some.client))) taken c.take_in.ensures.prefix),
      moved_over c.args.clients.items c.loop-client.yielded c.loop-client.client-iterator.rest.items c.next.new.self.rest.items c.in-Some.client c.loop-client.invariant.5 c.in-Some.ensures.steps.0,
    )

pub returns-clause-prefix : goal.returns-clause-prefix
returns-clause-prefix g c =
    let s = c.in-None.ensures.steps.0 in
    let none : length c.loop-client.client-iterator.rest.items ≡ 0 = grind (arith, common_steps, s) in
    let all : c.loop-client.yielded ≡ c.args.clients.items = all_over c.args.clients.items c.loop-client.yielded c.loop-client.client-iterator.rest.items c.loop-client.invariant.5 none in
    subst (λ (xs : List ClientShape). AreTakenIn c.args.drainer.now.taken xs) all c.loop-client.invariant.4
