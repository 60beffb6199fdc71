-- The list of the vertices that move: what a loop over it keeps, and what holds past the vertices that stay.
use Rattle.std.proofs.Common.{ℕ, suc, zero, ◌+◌, ◌-◌, ◌≤◌, ◌<◌, ◌≡◌, inl, inr, Bool, true, false, not, eqb, take, drop, List, [], ◌∷◌, ◌++◌, length, get_or, refl, ap, sym, ◌∙◌, arith, add-one, subst}
use lib.Pointwise.{pointwise}
use Rattle.std.proofs.lemmas.Bool.{cases_eq, not-false}
use Rattle.std.proofs.lemmas.Bool.Decides.{nat_tests, Decides-eqb}
use Rattle.std.proofs.lemmas.Slice.Eq.{slice_eq-Decides}
use Rattle.std.proofs.lemmas.List.{get_or-take, get_or-drop, length_push, get_or_push, get_or_append_left, get_or_past, get_or_default}
use Rattle.std.proofs.lemmas.Grind.{common_steps}
use Rattle.kc_levels.specs.Moved.{is_moved, pushed_if, moved_below}
use Rattle.kc_levels.proofs.lemmas.Moves.{moved_all, moved_below_is}
use Rattle.kc_graph.proofs.lemmas.Numbers.{has_number_index, all_from_below}
use Rattle.kc_levels.specs.declared.moves.Move.{Move}
use Rattle.kc_groups.specs.Gathering.{vertices, AreInOrder}
use Rattle.kc_groups.specs.private.Gathering.{is_mover}
use Rattle.kc_groups.proofs.WorkLemmas.{no_move, vertex_at, many}

-- nothing is listed over vertices that stay
pub moved_past : (moved : ℕ → Bool) (low k : ℕ) → low ≤ k → ((v : ℕ) → low ≤ v → v < k → moved v ≡ false) → moved_below moved low ≡ moved_below moved k
moved_past moved low zero le still = let none : low ≡ 0 = omega arith in ap (moved_below moved) none
moved_past moved low (suc k) le still = elim (cases_eq low (suc k)) [
  | inl e ↦ ap (moved_below moved) e
  | inr ne ↦ moved_past moved low k (omega arith) (λ v h lt. still v h (omega arith)) ∙ sym (ap (λ b. pushed_if b k (moved_below moved k)) (still k (omega arith) (omega arith)))
]

-- levels that are the same from one place to another move no vertex there
pub still_between : (x y : List ℕ) (low high : ℕ) → false ≡ not (pointwise eqb (take (high - low) (drop low x)) (take (high - low) (drop low y))) → (v : ℕ) → low ≤ v → v < high → is_moved x y v ≡ false
still_between x y low high told v le lt =
    let same = (slice_eq-Decides Decides-eqb (take (high - low) (drop low x)) (take (high - low) (drop low y)) _ refl).0 (not-false _ (sym told)) in
    let is : get_or x v 0 ≡ get_or y v 0 = sym (read x) ∙ ap (λ (zs : List ℕ). get_or zs (v - low) 0) same ∙ read y in
    grind (arith, nat_tests, is)
  where
    read : (zs : List ℕ) → get_or (take (high - low) (drop low zs)) (v - low) 0 ≡ get_or zs v 0
    read zs =
        let at : low + (v - low) ≡ v = omega (arith, le) in
        get_or-take (high - low) (drop low zs) (v - low) 0 (omega (arith, le, lt)) ∙ get_or-drop low zs (v - low) 0 ∙ ap (λ i. get_or zs i 0) at

-- the least vertex that may stand at place i of a rising list
abbrev pub begins : List ℕ → ℕ → ℕ
begins items zero = 0
begins items (suc i) = suc (get_or items i 0)

begins_push : (items : List ℕ) (k i : ℕ) → i ≤ length items → begins (items ++ k ∷ []) i ≡ begins items i
begins_push items k zero h = refl
begins_push items k (suc i) h = ap suc (get_or_append_left items (k ∷ []) 0 i (omega arith))

read_push : (items : List ℕ) (k i : ℕ) → i ≤ length items → get_or (items ++ k ∷ []) i (suc k) ≡ get_or items i k
read_push [] k zero h = refl
read_push [] k (suc i) h = absurd (omega arith)
read_push (x ∷ xs) k zero h = refl
read_push (x ∷ xs) k (suc i) h = read_push xs k i (omega arith)

-- what stays over each vertex that stays holds at the next vertex that moves, or at n
pub over : (P : ℕ → Type 0) (moved : ℕ → Bool) (n : ℕ) → ((k : ℕ) → k < n → moved k ≡ false → P k → P (suc k)) → (i : ℕ) → i ≤ length (moved_below moved n) → P (begins (moved_below moved n) i) → P (get_or (moved_below moved n) i n)
over P moved zero still zero h p = p
over P moved zero still (suc i) h p = absurd (omega arith)
over P moved (suc n) still i h p = grind (arith, nat_tests, common_steps, over P moved n (λ k lt. still k (omega arith)), length_push, get_or_push, get_or_past, read_push, begins_push, get_or_default)

-- moves in order are those of the vertices below n that are among them
pub movers_below : (n : ℕ) (ms : List Move) → AreInOrder n ms → vertices ms ≡ moved_below (is_mover ms) n
movers_below n ms order = grind (arith, nat_tests, common_steps, moved_below_is, has_number_index, all_from_below, order.rises, order.below)

module _ (moved : ℕ → Bool) (n : ℕ) (items : List ℕ) (is : items ≡ moved_below moved n) where
  -- the vertex at place i moves
  pub moved_at : (i : ℕ) → i < length items → (get_or items i 0 < n) × (moved (get_or items i 0) ≡ true)
  moved_at = subst (λ xs. (i : ℕ) → i < length xs → (get_or xs i 0 < n) × (moved (get_or xs i 0) ≡ true)) (sym is) (λ i h. moved_all moved n n (omega arith) i 0 h)

  module _ (P : ℕ → Type 0) where
    pub moved_this : (i : ℕ) → i < length items → P (get_or items i n) → P (get_or items i 0)
    moved_this i h p = subst P (get_or_default items i n 0 h) p

    module _ (still : (k : ℕ) → k < n → moved k ≡ false → P k → P (k + 1)) where
      from : (i : ℕ) → i ≤ length items → P (begins items i) → P (get_or items i n)
      from = subst (λ xs. (i : ℕ) → i ≤ length xs → P (begins xs i) → P (get_or xs i n)) (sym is) (over P moved n (λ k h e p. subst P (add-one k) (still k h e p)))

      pub moved_first : P 0 → P (get_or items 0 n)
      moved_first p = from 0 (omega arith) p

      pub moved_next : (i : ℕ) → i < length items → P (get_or items i 0 + 1) → P (get_or items (i + 1) n)
      moved_next i h p = subst (λ k. P (get_or items k n)) (sym (add-one i)) (from (suc i) (omega arith) (subst P (add-one (get_or items i 0)) p))

-- the same of moves in order
module _ (n : ℕ) (ms : List Move) (order : AreInOrder n ms) where
  at_vertex : (P : ℕ → Type 0) (i : ℕ) → i < length ms → P (get_or (vertices ms) i 0) → P (get_or ms i no_move).vertex
  at_vertex P i h p = subst P (sym (vertex_at ms i h)) p

  pub mover_at : (i : ℕ) → i < length ms → ((get_or ms i no_move).vertex < n) × (is_mover ms (get_or ms i no_move).vertex ≡ true)
  mover_at i h = at_vertex (λ v. (v < n) × (is_mover ms v ≡ true)) i h (moved_at (is_mover ms) n (vertices ms) (movers_below n ms order) i (omega (arith, many ms, h)))

  module _ (P : ℕ → Type 0) where
    pub mover_this : (i : ℕ) → i < length ms → P (get_or (vertices ms) i n) → P (get_or ms i no_move).vertex
    mover_this i h p = at_vertex P i h (moved_this (is_mover ms) n (vertices ms) (movers_below n ms order) P i (omega (arith, many ms, h)) p)

    module _ (still : (k : ℕ) → k < n → is_mover ms k ≡ false → P k → P (k + 1)) where
      pub mover_first : P 0 → P (get_or (vertices ms) 0 n)
      mover_first p = moved_first (is_mover ms) n (vertices ms) (movers_below n ms order) P still p

      pub mover_next : (i : ℕ) → i < length ms → P ((get_or ms i no_move).vertex + 1) → P (get_or (vertices ms) (i + 1) n)
      mover_next i h p = moved_next (is_mover ms) n (vertices ms) (movers_below n ms order) P still i (omega (arith, many ms, h)) (subst (λ v. P (v + 1)) (vertex_at ms i h) p)
