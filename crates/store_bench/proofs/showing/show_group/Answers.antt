use Rattle.std.proofs.Common.{◌<◌, ap, subst, length, ◌∙◌}
use Rattle.kc_groups.specs.declared.plans.PhasePlan.{PhasePlan}
use Rattle.kc_store.specs.Plans.{group_at}
use Rattle.store_bench.proofs.Shows.{may_publish, shown_group}
use Rattle.store_bench.proofs.showing.show_group.Goals as goal

pub publish-requires-clause-publishes : goal.publish-requires-clause-publishes
publish-requires-clause-publishes c = may_publish c.args.g c.args.moves c.args.writer.now.state _ c.mark_group.ensures.marked
    (c.requires.moves ∙ ap (λ (p : PhasePlan). length (group_at p c.args.g).moves) c.requires.plan) (subst (λ (p : PhasePlan). c.args.g < length p.groups) c.requires.plan c.requires.inside) c.requires.next c.requires.loans

pub returns-clause-shown : goal.returns-clause-shown
returns-clause-shown c = shown_group c.args.g c.args.moves c.args.writer.now.state _ _ _ c.mark_group.ensures.marked (ap (λ z. z.state) c.publish.ensures) c.clear_group.ensures.cleared
    (c.requires.moves ∙ ap (λ (p : PhasePlan). length (group_at p c.args.g).moves) c.requires.plan) (subst (λ (p : PhasePlan). c.args.g < length p.groups) c.requires.plan c.requires.inside) c.requires.next c.requires.loans
