-- Who fell, when one vertex falls on.
use Rattle.std.proofs.Common.{ℕ, suc, zero, replicate, ◌≤◌, ◌<◌, ◌≡◌, ◌≢◌, Bool, true, false, not, eqb, List, [], ◌∷◌, ◌++◌, length, get_or, set, refl, ap, ◌∙◌, arith}
use Rattle.std.proofs.lemmas.Bool.Decides.{nat_tests}
use Rattle.std.proofs.lemmas.List.{get_or-set_same, get_or-set_other}
use Rattle.kc_graph.proofs.lemmas.Numbers.{has_number-push}
use Rattle.kc_levels.specs.Moved.{is_moved}
use Rattle.kc_levels.proofs.lemmas.Moves.{distinct_push}
use Rattle.kc_delete.specs.private.Fallen.{AreFallen}

-- v falls from a level to a lower one
module _ (x y vs : List ℕ) (v from to : ℕ) (s : AreFallen x y vs) (inside : v < length y) (here : from ≡ get_or y v 0) (under : from ≤ get_or x v 0) (less : to < from) where
  moved_now : is_moved x (set y v to) v ≡ true
  moved_now = grind (arith, nat_tests, get_or-set_same)

  same_other : (u : ℕ) → u ≢ v → is_moved x (set y v to) u ≡ is_moved x y u
  same_other u ne = ap (λ k. not (eqb (get_or x u 0) k)) (get_or-set_other y v u to 0 ne)

  -- it stood where it stood before the phase
  pub noted_first : get_or x v 0 ≡ from → AreFallen x (set y v to) (vs ++ v ∷ [])
  noted_first first = record {
    listed = λ u. grind (arith, nat_tests, has_number-push, moved_now, same_other);
    once = distinct_push vs v s.once (s.listed v ∙ unmoved);
  }
    where
      unmoved : is_moved x y v ≡ false
      unmoved = grind (arith, nat_tests, first, here)

-- who waits, where nobody does
pub none_marked : (marks : List Bool) → ((v : ℕ) → get_or marks v false ≡ false) → marks ≡ replicate (length marks) false
none_marked [] none = refl
none_marked (b ∷ bs) none = both b bs (replicate (length bs) false) (none zero) (none_marked bs (λ v. none (suc v)))
  where
    both : (a : Bool) (as_ rest : List Bool) → a ≡ false → as_ ≡ rest → a ∷ as_ ≡ false ∷ rest
    both a as_ rest e f = rw (e, f) refl
