use Rattle.std.proofs.Common.{◌≡◌, ◌+◌, length, All}
use Rattle.std.specs.Prelude.{vec_capacity}
use Rattle.kc_engine.specs.private.Lending.{all_returned}
use Rattle.kc_engine.proofs.showing.lending.give_back_all.Given as goal

abbrev pub invariant-loop-turn : goal.invariant-loop-turn
invariant-loop-turn l = (length l.markers.items + l._turn ≡ length l.fn.markers.items)
    × (l.writer.table ≡ l.fn.writer.table)
    × All (λ m. m.table ≡ l.store.table) l.markers.items
    × (all_returned l.markers.items l.writer.state ≡ all_returned l.fn.markers.items l.fn.writer.state)
    × (vec_capacity l.markers ≡ vec_capacity l.fn.markers)
