-- The greatest size of a well-formed plan.
use Rattle.std.specs.Prelude.{ℕ, ◌≤◌, length, All}
use Rattle.kc_history.specs.declared.entries.Entry.{Entry}
use Rattle.kc_groups.specs.declared.plans.PhasePlan.{PhasePlan}
use Rattle.kc_groups.specs.WellFormed.{IsWellFormed}

-- a plan that is well formed for n vertices has at most n groups, each of at most n moves
pub record PlansAreSmall : Type 0 where
  pub groups : (n : ℕ) (plan : PhasePlan) → IsWellFormed n plan → length plan.groups ≤ n
  pub moves : (n : ℕ) (plan : PhasePlan) → IsWellFormed n plan → All (λ (e : Entry). length e.moves ≤ n) plan.groups
