use Rattle.std.proofs.Common.{ℕ, All}
use Rattle.kc_groups.specs.WellFormed.{IsWellFormed}
use Rattle.text_tests.proofs.tests.report.phases.plans_of.Given as goal

abbrev pub invariant-loop-step : goal.invariant-loop-step
invariant-loop-step g l = All (λ plan. (n : ℕ) × IsWellFormed n plan) l.plans.items
