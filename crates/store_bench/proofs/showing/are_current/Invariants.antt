use Rattle.std.proofs.Common.{◌≡◌, ℕ, ◌<◌, get_or}
use Rattle.kc_history.specs.declared.entries.Entry.{Entry}
use Rattle.kc_store.specs.Showing.{AreCurrent}
use Rattle.store_bench.proofs.showing.are_current.Given as goal

abbrev pub invariant-loop-g : goal.invariant-loop-g
invariant-loop-g l = (l.writer.table ≡ l.fn.writer.table) × (l.writer.state ≡ record l.fn.writer.state { joined = l.writer.state.joined })
    × ((k : ℕ) (d : Entry) → k < l.g → AreCurrent l.n l.fn.writer.state.history (get_or l.plan.groups k d))
