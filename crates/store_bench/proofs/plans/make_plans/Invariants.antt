use Rattle.std.proofs.Common.{◌≡◌, All, length}
use Rattle.kc_groups.specs.WellFormed.{IsWellFormed}
use Rattle.store_bench.proofs.plans.make_plans.Given as goal

abbrev pub invariant-loop-k : goal.invariant-loop-k
invariant-loop-k l = All (IsWellFormed l.n) l.plans.items × (length l.plans.items ≡ l.k)
