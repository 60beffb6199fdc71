use Rattle.std.proofs.Common.{◌≡◌, ◌⊎◌, ◌*◌, ◌≤◌}
use Rattle.std.specs.Prelude.{vec_len, vec_capacity}
use Rattle.kc_engine.specs.private.Lending.{AreLent}
use Rattle.kc_engine.proofs.showing.lending.lend_all.Given as goal

abbrev pub invariant-loop-worker : goal.invariant-loop-worker
invariant-loop-worker l = (l.writer.table ≡ l.fn.writer.table)
    × AreLent l.fn.writer.table l.g l.from l.fn.writer.state l.writer.state l.markers.items
    × (l.from ≤ l.moves)
    × ((l.from ≡ l.moves) ⊎ (l.from ≡ l._worker * l.size))
    × (vec_len l.markers ≤ l._worker)
    × (l.workers ≤ vec_capacity l.markers)
