use Rattle.std.proofs.Common.{◌<◌, ap, subst, length, ◌∙◌}
use Rattle.kc_groups.specs.declared.plans.PhasePlan.{PhasePlan}
use Rattle.kc_store.specs.Plans.{group_at}
use Rattle.kc_engine.proofs.Groups.{may_publish, group_shown}
use Rattle.kc_engine.proofs.showing.places.MarkerPlaces.show_group.Goals as goal

pub publish-requires-clause-publishes : goal.publish-requires-clause-publishes
publish-requires-clause-publishes g c = may_publish c.args.group.now.g c.args.group.now.moves c.args.writer.now.state _ c.do_group.ensures.done
    (c.args.group.now.counted ∙ ap (λ (p : PhasePlan). length (group_at p c.args.group.now.g).moves) c.requires.plan) (subst (λ (p : PhasePlan). c.args.group.now.g < length p.groups) c.requires.plan c.args.group.now.inside) c.requires.next

pub returns-clause-shown : goal.returns-clause-shown
returns-clause-shown g c = group_shown c.args.group.now.g c.args.group.now.moves c.args.writer.now.state _ _ _ c.do_group.ensures.done (ap (λ z. z.state) c.publish.ensures) c.do_group-2.ensures.done
    (c.args.group.now.counted ∙ ap (λ (p : PhasePlan). length (group_at p c.args.group.now.g).moves) c.requires.plan) (subst (λ (p : PhasePlan). c.args.group.now.g < length p.groups) c.requires.plan c.args.group.now.inside) c.requires.next
