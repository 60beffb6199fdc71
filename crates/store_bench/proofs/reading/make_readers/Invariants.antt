use Rattle.std.proofs.Common.{◌≡◌}
use Rattle.store_bench.proofs.reading.make_readers.Given as goal

abbrev pub invariant-loop-turn : goal.invariant-loop-turn
invariant-loop-turn l = l.writer ≡ l.fn.writer
