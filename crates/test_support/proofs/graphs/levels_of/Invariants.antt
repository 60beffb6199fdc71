use Rattle.std.proofs.Common.{◌≡◌, length}
use Rattle.test_support.proofs.graphs.levels_of.Given as goal

abbrev pub invariant-loop-v : goal.invariant-loop-v
invariant-loop-v l = length l.levels ≡ length l.items
