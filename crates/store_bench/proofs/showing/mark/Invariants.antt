use Rattle.std.proofs.Common.{◌≡◌}
use Rattle.store_bench.proofs.showing.mark.Given as goal

abbrev pub invariant-loop-place : goal.invariant-loop-place
invariant-loop-place l = (l.writer.table ≡ l.fn.writer.table) × (l.writer.state.plan ≡ l.plan) × (l.writer.state.published ≡ 0)
