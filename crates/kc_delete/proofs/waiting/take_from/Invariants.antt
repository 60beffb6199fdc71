use Rattle.std.proofs.Common.{ℕ, ◌≡◌, true, false, length, get_or}
use Rattle.kc_graph.specs.Numbers.{has_number}
use Rattle.kc_delete.proofs.waiting.take_from.Given as goal

abbrev pub invariant-loop-v : goal.invariant-loop-v
invariant-loop-v l = record {
  marks : l.marks.items ≡ l.initial.marks.items;
  fewer : (v : ℕ) → has_number v l.round.items ≡ true → has_number v l.initial.round.items ≡ true;
  still : (v : ℕ) → get_or l.initial.marks.items v false ≡ true → has_number v l.initial.round.items ≡ true → has_number v l.round.items ≡ true;
}

abbrev pub decreases-loop-v : goal.decreases-loop-v
decreases-loop-v l = length l.round.items
