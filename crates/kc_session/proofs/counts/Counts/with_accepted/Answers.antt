use Rattle.std.proofs.Common.{◌≡◌, List, length, arith, ap, refl}
use Rattle.kc_history.specs.declared.entries.Entry.{Entry}
use Rattle.kc_groups.specs.declared.plans.PhasePlan.{PhasePlan}
use Rattle.kc_session.specs.Counts.{moves_in}
use Rattle.kc_session.proofs.CountLemmas.{capped_next, capped_all, counts_same}
use Rattle.kc_session.proofs.counts.Counts.with_accepted.Goals as goal

pub loop-plan-preserved : goal.loop-plan-preserved
loop-plan-preserved c = record {
  groups = capped_next PhasePlan (λ (p : PhasePlan). length p.groups) c.args.phases.now c.loop-plan.plan-index c.plan-item.result c.args.self.groups c.loop-plan.groups c.len.result _ c.loop-plan-test.true c.loop-plan.invariant.groups (rw c.plan-item.is at c.len.ensures) c.capped_sum-groups.ensures;
  moves = capped_next PhasePlan (λ (p : PhasePlan). moves_in p.groups) c.args.phases.now c.loop-plan.plan-index c.plan-item.result c.args.self.moves c.loop-plan.moves (moves_in c.as_slice.result.now) _ c.loop-plan-test.true c.loop-plan.invariant.moves (ap (λ (es : List Entry). moves_in es) (rw c.plan-item.is at c.as_slice.ensures)) c.with_moves-moves.ensures;
}

pub returns : goal.returns
returns c =
    let last = c.loop-plan-test.false in
    let below = c.loop-plan.auto.plan-index-end in
    let n : c.loop-plan.plan-index ≡ length c.args.phases.now = omega (arith, last, below) in
    counts_same _ _ refl (omega arith)
    (capped_all PhasePlan (λ (p : PhasePlan). length p.groups) c.args.phases.now c.loop-plan.plan-index c.args.self.groups c.loop-plan.groups n c.loop-plan.invariant.groups)
    (capped_all PhasePlan (λ (p : PhasePlan). moves_in p.groups) c.args.phases.now c.loop-plan.plan-index c.args.self.moves c.loop-plan.moves n c.loop-plan.invariant.moves)
