use Rattle.std.proofs.Common.{◌≡◌}
use Rattle.store_bench.proofs.reading.sum_of_levels.Given as goal

abbrev pub invariant-loop-v : goal.invariant-loop-v
invariant-loop-v l = l.pass.table ≡ l.fn.pass.table
