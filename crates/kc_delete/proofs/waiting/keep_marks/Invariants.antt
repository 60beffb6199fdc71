use Rattle.std.proofs.Common.{ℕ, ◌≡◌, ◌&&◌, ◌||◌, not, false, length, get_or, take}
use Rattle.kc_graph.specs.Numbers.{has_number}
use Rattle.kc_delete.proofs.waiting.keep_marks.Given as goal

abbrev pub invariant-loop-v : goal.invariant-loop-v
invariant-loop-v l = record {
  sized : length l.marks.items ≡ length l.initial.marks.items;
  marks : (u : ℕ) → get_or l.marks.items u false ≡ get_or l.initial.marks.items u false && not (has_number u (take l.v-index l.candidates));
}

abbrev pub invariant-loop-v-2 : goal.invariant-loop-v-2
invariant-loop-v-2 l = record {
  sized : length l.marks.items ≡ length l.initial.marks.items;
  marks : (u : ℕ) → get_or l.marks.items u false ≡ has_number u (take l.v-index l.movers) || get_or l.initial.marks.items u false;
}
