use Rattle.std.proofs.Common.{◌≡◌, ℕ, ◌<◌, get_or}
use Rattle.kc_store.specs.Plans.{Move}
use Rattle.kc_store.specs.States.{last_level}
use Rattle.store_bench.proofs.showing.is_current.Given as goal

abbrev pub invariant-loop-i : goal.invariant-loop-i
invariant-loop-i l = (l.writer.table ≡ l.fn.writer.table) × (l.writer.state ≡ record l.fn.writer.state { joined = l.writer.state.joined })
    × ((k : ℕ) (d : Move) → k < l.i → last_level l.n l.fn.writer.state.history (get_or l.group.moves k d).vertex ≡ (get_or l.group.moves k d).old)
