use Rattle.std.proofs.Common.{◌≡◌, length}
use Rattle.store_bench.proofs.plans.ones.Given as goal

abbrev pub invariant-loop-v : goal.invariant-loop-v
invariant-loop-v l = length l.levels ≡ l.n
