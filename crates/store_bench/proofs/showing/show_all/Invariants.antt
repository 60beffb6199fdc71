use Rattle.std.proofs.Common.{◌≡◌}
use Rattle.kc_store.specs.Showing.{IsIdle}
use Rattle.store_bench.proofs.showing.show_all.Given as goal

abbrev pub invariant-loop-k : goal.invariant-loop-k
invariant-loop-k l = (l.writer.table ≡ l.fn.writer.table) × (l.writer.state.vertices ≡ l.n) × IsIdle l.writer.state × (l.writer.state.phase ≡ l.k)
