use Rattle.std.proofs.Common.{ℕ, Bool, true, false, List, ◌++◌, ◌∷◌, [], All, sym, subst}
use Rattle.std.specs.Bool.{if◌then◌else◌}
use Rattle.std.specs.Result.{is_ok}
use Rattle.std.proofs.lemmas.List.Elements.{All-push}
use Rattle.kc_groups.specs.declared.plans.PhasePlan.{PhasePlan}
use Rattle.kc_groups.specs.WellFormed.{IsWellFormed}
use Rattle.text_tests.proofs.tests.report.phases.plans_of.Goals as goal

-- what holds of all of two lists holds of all of one of them
either : (P : PhasePlan → Type 0) (b : Bool) (xs ys : List PhasePlan) → All P xs → All P ys → All P (if b then xs else ys)
either P true xs ys p q = p
either P false xs ys p q = q

pub loop-step-preserved : goal.loop-step-preserved
loop-step-preserved g c =
    let P : PhasePlan → Type 0 = λ plan. (n : ℕ) × IsWellFormed n plan in
    let had = c.loop-step.plans.items in
    subst (All P) (sym c.push.ensures.items) (either P (is_ok c.push.result) (had ++ c.plan_of.result ∷ []) had (All-push P had c.plan_of.result c.loop-step.invariant c.plan_of.ensures) c.loop-step.invariant)
