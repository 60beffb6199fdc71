use Rattle.std.proofs.Common.{rules, sym, ap, subst}
use Rattle.kc_groups.specs.declared.plans.PhasePlan.{PhasePlan}
use Rattle.kc_store.specs.declared.roles.WriterState.{WriterState}
use Rattle.kc_store.specs.States.{MayBegin}
use Rattle.kc_store.proofs.Forms.{can_begin}
use Rattle.kc_store.proofs.Calls.{begins_from, begun_writer}
use Rattle.kc_store.proofs.writer.Writer.begin_as.Goals as goal

pub store-requires : goal.store-requires
store-requires g c =
    let may = subst (λ (z : WriterState × PhasePlan). MayBegin z.0 z.1) (λ i. (sym (ap (λ a. a.state) c.self.view_is) i, sym c.requires.plan i)) c.requires.begins in (
      search rules,
      search rules,
      begins_from _ c.store.inside.n _ _ _ _ g.J.Planned.plan c.store.invariant.0 c.self.invariant.me_is (can_begin _ _ may) (search rules),
    )

pub invariant_of-self : goal.invariant_of-self
invariant_of-self g c =
    let may = subst (λ (z : WriterState × PhasePlan). MayBegin z.0 z.1) (λ i. (sym (ap (λ a. a.state) c.self.view_is) i, sym c.requires.plan i)) c.requires.begins in
    begun_writer _ _ _ c.self.invariant c.store-2.ensures.0 c.store-2.ensures.2 (can_begin _ _ may)
