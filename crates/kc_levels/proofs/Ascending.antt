-- Vertices in ascending order, and the moves between two lists of levels.
use Rattle.std.proofs.Common.{ℕ, suc, ◌+◌, ◌≤◌, ◌<◌, ◌≡◌, ◌≢◌, inl, inr, true, false, cond, eqb, ◌&&◌, ltb, List, [], ◌∷◌, ◌++◌, length, get_or, map, set, take, refl, ap, sym, ◌∙◌, arith, subst}
use Rattle.std.specs.Bool.{⊤}
use Rattle.std.specs.List.{All, sum_by}
use Rattle.std.specs.List.Sorted.{IsPermutation, IsNonDecreasing}
use Rattle.std.proofs.lemmas.Bool.{cases_eq, cases_Bool, true≢false}
use Rattle.std.proofs.lemmas.Bool.Decides.{nat_tests}
use Rattle.std.proofs.lemmas.List.{length-map, get_or-map, get_or_past}
use Rattle.std.proofs.lemmas.List.Sums.{sum_by-cons}
use Rattle.std.proofs.lemmas.List.Sorted.{sum_by-IsPermutation}
use Rattle.std.proofs.lemmas.Grind.{same_number_lists}
use Rattle.kc_graph.specs.Numbers.{RisesFrom, has_number}
use Rattle.kc_graph.proofs.lemmas.Numbers.{has_number_index, has_number-push}
use Rattle.kc_levels.specs.declared.moves.Move.{Move}
use Rattle.kc_levels.specs.Moved.{is_moved, moved_below, move_of, moves_between}
use Rattle.kc_levels.specs.Following.{AreDistinct}
use Rattle.kc_levels.specs.private.Following.{IsCopied}
use Rattle.kc_levels.proofs.MovesBetween.{has_number-moved_below, moved_below_is, moves_own}
use Rattle.kc_levels.proofs.Copied.{copied_first, copied_one, copied_next}

-- how often v stands in the list
abbrev times : ℕ → List ℕ → ℕ
times v vs = sum_by (λ u. cond (eqb u v) 1 0) vs

times_cons : (v u : ℕ) (us : List ℕ) → times v (u ∷ us) ≡ cond (eqb u v) 1 0 + times v us
times_cons v u us = sum_by-cons (λ t. cond (eqb t v) 1 0) u us

has_times : (v : ℕ) (vs : List ℕ) → has_number v vs ≡ ltb 0 (times v vs)
has_times v [] = refl
has_times v (u ∷ us) = grind (arith, nat_tests, has_times v us, times_cons)

distinct_times : (v : ℕ) (vs : List ℕ) → AreDistinct vs → times v vs ≤ 1
distinct_times v [] d = omega arith
distinct_times v (u ∷ us) d = grind (arith, nat_tests, distinct_times v us d.1, times_cons, has_times, d.0, d.1)

rises_from : (low : ℕ) (vs : List ℕ) → IsNonDecreasing vs → ((v : ℕ) → times v vs ≤ 1) → (0 < length vs → low ≤ get_or vs 0 0) → RisesFrom low vs
rises_from low [] up few from = record {}
rises_from low (v ∷ vs) up few from = (
  from (omega arith),
  rises_from (suc v) vs (λ i j d le at. up (suc i) (suc j) d (omega (arith, le)) (omega (arith, at)))
      (λ u. omega (arith, times_cons u v vs, few u))
      (λ some. next vs some (up 0 1 0 (omega arith) (omega (arith, some))) (few v)),
)
  where
    next : (us : List ℕ) → 0 < length us → v ≤ get_or us 0 0 → times v (v ∷ us) ≤ 1 → suc v ≤ get_or us 0 0
    next [] some le once = absurd (omega (arith, some))
    next (u ∷ us) some le once = elim (cases_eq v u) [
      | inr ne ↦ omega (arith, ne, le)
      | inl e ↦ absurd (twice v u _ _ _ e (times_cons v v (u ∷ us)) (times_cons v u us) once)
    ]
      where
        twice : (a b k m n : ℕ) → a ≡ b → k ≡ cond (eqb a a) 1 0 + m → m ≡ cond (eqb b a) 1 0 + n → k ≤ 1 → ⊥
        twice a b k m n e f g few = grind (arith, nat_tests, e, f, g, few)

-- a sort of vertices that are there once each
module _ (old new : List ℕ) (d : AreDistinct old) (moved : IsPermutation old new) where
  same_times : (v : ℕ) → times v new ≡ times v old
  same_times v = sum_by-IsPermutation (λ u. cond (eqb u v) 1 0) old new moved

  pub sorted_rises : IsNonDecreasing new → RisesFrom 0 new
  sorted_rises up = rises_from 0 new up (λ v. omega (arith, same_times v, distinct_times v old d)) (λ some. omega arith)

  pub sorted_same : (v : ℕ) → has_number v new ≡ has_number v old
  sorted_same v = has_times v new ∙ ap (λ k. ltb 0 k) (same_times v) ∙ sym (has_times v old)

-- the moves of all who rose, ascending
pub moves_are : (n : ℕ) (x y vs : List ℕ) → RisesFrom 0 vs → ((v : ℕ) → has_number v vs ≡ is_moved x y v) → ((v : ℕ) → has_number v vs ≡ true → v < n) → map (move_of x y) vs ≡ moves_between n x y
moves_are n x y vs up each inside = grind (arith, nat_tests, moved_below_is)

-- who moves is a vertex
pub moved_inside : (n : ℕ) (x y : List ℕ) (v : ℕ) → length x ≡ n → length y ≡ n → is_moved x y v ≡ true → v < n
moved_inside n x y v long wide moves = grind (arith, nat_tests, get_or_past, true≢false)

-- a vertex that none of the moves is of has its level
pub still_here : (n : ℕ) (x y : List ℕ) (v : ℕ) → v < n → All (λ m. v ≢ m.vertex) (moves_between n x y) → get_or x v 0 ≡ get_or y v 0
still_here n x y v h apart = elim (cases_Bool (is_moved x y v)) [
  | inr same ↦ grind (arith, nat_tests, same)
  | inl moves ↦
      let there : has_number v (moved_below (is_moved x y) n) ≡ true = has_number-moved_below (is_moved x y) n v ∙ ap (λ b. ltb v n && b) moves ∙ grind (arith, nat_tests, h) in
      let place = has_number_index v (moved_below (is_moved x y) n) there in
      let item = get_or-map (move_of x y) (moved_below (is_moved x y) n) place.0 0 (move_of x y 0) place.1 in
      absurd (apart place.0 (move_of x y 0) (omega (arith, place.1, length-map (moved_below (is_moved x y) n) (move_of x y))) (sym place.2 ∙ sym (ap (λ (m : Move). m.vertex) item)))
]

-- levels that were copied where somebody moved
pub levels_copied : (n : ℕ) (x y z : List ℕ) (moves : _) → length x ≡ n → length y ≡ n → moves ≡ moves_between n x y → IsCopied y x z (λ v. All (λ (m : Move). v ≢ m.vertex) moves) → z ≡ y
levels_copied n x y z moves long wide is s = same_number_lists z y (s.sized ∙ long ∙ sym wide) (λ v h. elim (s.each v) [
  | inl done ↦ done
  | inr kept ↦ kept.0 ∙ still_here n x y v (omega (arith, h, s.sized, long)) (subst (λ ms. All (λ (m : Move). v ≢ m.vertex) ms) is kept.1)
])

-- one vertex more was put on its new level
pub following_next : (x y z after : List ℕ) (moves : List Move) (i : ℕ) (d : Move) → length z ≡ length x → i < length moves → moves ≡ moves_between (length x) x y → after ≡ set z (get_or moves i d).vertex (get_or moves i d).new → IsCopied y x z (λ v. All (λ (m : Move). v ≢ m.vertex) (take i moves)) → IsCopied y x after (λ v. All (λ (m : Move). v ≢ m.vertex) (take (i + 1) moves))
following_next x y z after moves i d long at is set_is s =
    copied_next (λ v (m : Move). v ≢ m.vertex) moves i d (get_or moves i d) y x z after at refl s
    (subst (λ t. IsCopied y z t (λ v. v ≢ (get_or moves i d).vertex)) (sym set_is)
    (copied_one y z z (get_or moves i d).vertex (get_or moves i d).new (λ v. ⊤) (λ v. v ≢ (get_or moves i d).vertex) (omega (arith, long, own.0)) (ap (λ (m : Move). m.new) own.2) (copied_first y z (λ v. ⊤) (λ v. tt)) (λ u ne p. ne)))
  where
    own : ((get_or moves i d).vertex < length x) × (is_moved x y (get_or moves i d).vertex ≡ true) × (get_or moves i d ≡ move_of x y (get_or moves i d).vertex)
    own = subst (λ (ms : List Move). ((get_or ms i d).vertex < length x) × (is_moved x y (get_or ms i d).vertex ≡ true) × (get_or ms i d ≡ move_of x y (get_or ms i d).vertex)) (sym is) (moves_own (length x) x y i d (omega (arith, at, ap (λ (ms : List Move). length ms) is)))

-- a vertex more, which wasn't there
pub distinct_push : (vs : List ℕ) (v : ℕ) → AreDistinct vs → has_number v vs ≡ false → AreDistinct (vs ++ v ∷ [])
distinct_push [] v d none = (refl, record {})
distinct_push (w ∷ vs) v d none = grind (arith, nat_tests, distinct_push vs v d.1 (grind (arith, nat_tests, none)), has_number-push, d.0, d.1)
