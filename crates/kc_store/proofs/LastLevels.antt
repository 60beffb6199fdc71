-- The level of a vertex at the end of a history is that of the last point.
use Rattle.std.proofs.Common.{ℕ, ◌≡◌, ◌<◌, List, [], ◌∷◌, length, get_or, set, Option, Some, None, if◌then◌else◌, nat_eq, refl, sym, ◌∙◌, arith, subst}
use Rattle.std.proofs.lemmas.Bool.Decides.{nat_tests}
use Rattle.std.proofs.lemmas.List.{get_or-set_same, get_or-set_other, length-replicate, get_or-replicate}
use Rattle.std.proofs.Math.ListN.{length-set}
use Rattle.std.proofs.Math.Seq.{take-length}
use Rattle.kc_history.specs.declared.entries.Entry.{Entry}
use Rattle.kc_history.specs.Points.{with_moves, levels_after, levels_at}
use Rattle.kc_history.specs.Ends.{or_else, last_move}
use Rattle.kc_history.specs.private.Ends.{level_after, level_of}
use Rattle.kc_store.specs.Plans.{Move}

one_set : (x : List ℕ) (m : Move) (v : ℕ) → v < length x → get_or (set x m.vertex m.new) v 0 ≡ level_after (get_or x v 0) (if nat_eq m.vertex v then Some m else None)
one_set x m v lt = grind (arith, nat_tests, get_or-set_same, get_or-set_other)

after_both : (d e : ℕ) (o q : Option Move) → e ≡ level_after d q → level_after e o ≡ level_after d (or_else o q)
after_both d e o q h = grind (arith, nat_tests)

pub after_moves : (x : List ℕ) (ms : List Move) (v : ℕ) → v < length x → get_or (with_moves x ms) v 0 ≡ level_after (get_or x v 0) (last_move v ms)
after_moves x [] v lt = refl
after_moves x (m ∷ ms) v lt = grind (arith, nat_tests, after_moves (set x m.vertex m.new) ms v (subst (λ k. v < k) (sym (length-set x m.vertex m.new)) lt), length-set, after_both, nat_eq, one_set)

pub with_moves-length : (x : List ℕ) (ms : List Move) → length (with_moves x ms) ≡ length x
with_moves-length x [] = refl
with_moves-length x (m ∷ ms) = with_moves-length (set x m.vertex m.new) ms ∙ length-set x m.vertex m.new

pub after_entries : (x : List ℕ) (es : List Entry) (v : ℕ) → v < length x → get_or (levels_after x es) v 0 ≡ level_of (get_or x v 0) es v
after_entries x [] v lt = refl
after_entries x (e ∷ es) v lt = grind (arith, nat_tests, after_entries (with_moves x e.moves) es v (subst (λ k. v < k) (sym (with_moves-length x e.moves)) lt), with_moves-length, after_moves)

-- the level at the last point
pub at_end : (n : ℕ) (es : List Entry) (v : ℕ) → v < n → get_or (levels_at n es (length es)) v 0 ≡ level_of 0 es v
at_end n es v lt = grind (arith, nat_tests, take-length, after_entries, length-replicate, get_or-replicate)

pub ends_at : (n : ℕ) (es : List Entry) (v l : ℕ) → v < n → level_of 0 es v ≡ l → get_or (levels_at n es (length es)) v 0 ≡ l
ends_at n es v l lt is = at_end n es v lt ∙ is
