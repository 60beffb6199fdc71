use Rattle.std.proofs.Common.{◌≡◌}
use Rattle.kc_store.specs.private.Showing.{HasCleared}
use Rattle.store_bench.proofs.showing.clear_group.Given as goal

abbrev pub invariant-loop-i : goal.invariant-loop-i
invariant-loop-i l = (l.writer.table ≡ l.fn.writer.table) × HasCleared l.g l.i l.fn.writer.state l.writer.state
