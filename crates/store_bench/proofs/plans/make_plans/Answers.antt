use Rattle.std.proofs.Common.{ℕ, All, length, ap, sym, subst, arith, length-append}
use Rattle.std.proofs.lemmas.List.Elements.{All-push}
use Rattle.kc_groups.specs.declared.plans.PhasePlan.{PhasePlan}
use Rattle.kc_groups.specs.WellFormed.{IsWellFormed}
use Rattle.store_bench.proofs.plans.make_plans.Goals as goal

pub loop-k-preserved : goal.loop-k-preserved
loop-k-preserved c =
    let size = ap (length {A = PhasePlan}) c.in_ok-push.ensures.items in
    let was = c.loop-k.invariant.1 in (
      subst (All (IsWellFormed c.args.n)) (sym c.in_ok-push.ensures.items) (All-push (IsWellFormed c.args.n) c.loop-k.plans.items _ c.loop-k.invariant.0 (subst (λ (n : ℕ). IsWellFormed n c.in_ok-plan.field-0) (ap (λ z. z.vertices) c.in_ok-graph.ensures) c.in_ok-plan.ensures)),
      grind (arith, size, was, length-append),
    )
