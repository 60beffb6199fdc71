-- Told lists add up: how often a vertex is in a list, in parts of it, and in what the rows of many vertices tell.
use Rattle.std.proofs.Common.{ℕ, suc, ◌+◌, ◌≤◌, ◌<◌, ◌≡◌, ◌≢◌, inl, inr, Bool, true, false, cond, eqb, List, [], ◌∷◌, ◌++◌, length, get_or, take, drop, add-one, refl, ap, sym, ◌∙◌, arith}
use Rattle.std.specs.Prelude.{count_by, filter}
use Rattle.std.specs.List.{flat_map}
use Rattle.std.proofs.lemmas.Bool.{cases_Bool, cases_eq, eq-eqb, true≢false}
use Rattle.std.proofs.lemmas.Bool.Decides.{nat_tests}
use Rattle.std.proofs.lemmas.List.Concat.{flat_map-cons}
use Rattle.std.proofs.Math.Seq.{take-suc}
use Rattle.std.proofs.lemmas.List.{take-append-drop}
use Rattle.kc_graph.specs.Numbers.{has_number, RisesFrom}
use Rattle.kc_graph.specs.Shape.{GraphShape, IsGraph, neighbours_of}
use Rattle.kc_graph.proofs.lemmas.Counts.{count_by-cons}
use Rattle.kc_graph.proofs.lemmas.Numbers.{has_number_below}
use Rattle.kc_graph.proofs.lemmas.Neighbours.{neighbours_rise, neighbours_both}
use Rattle.kc_levels.specs.Following.{AreDistinct}
use Rattle.kc_insert.specs.private.Telling.{in_range, times}
use Rattle.kc_insert.specs.Ranges.{range_of}
use Rattle.kc_insert.proofs.Tests.{count_agree, count_less}

pub times-append : (v : ℕ) (xs ys : List ℕ) → times v (xs ++ ys) ≡ times v xs + times v ys
times-append v [] ys = omega arith
times-append v (x ∷ xs) ys = omega (arith, times-append v xs ys)

pub times_none : (v : ℕ) (xs : List ℕ) → has_number v xs ≡ false → times v xs ≡ 0
times_none v [] none = refl
times_none v (x ∷ xs) none = elim (cases_eq x v) [
  | inl e ↦ absurd (true≢false (grind (arith, nat_tests, e, none)))
  | inr ne ↦ let later = times_none v xs (grind (arith, nat_tests, ne, none)) in grind (arith, nat_tests, ne, later)
]

pub times_some : (v : ℕ) (xs : List ℕ) → 1 ≤ times v xs → has_number v xs ≡ true
times_some v xs some = grind (arith, nat_tests, times_none)

pub times_there : (v : ℕ) (xs : List ℕ) → has_number v xs ≡ true → 1 ≤ times v xs
times_there v [] there = absurd (true≢false (sym there))
times_there v (x ∷ xs) there = elim (cases_eq x v) [
  | inl e ↦ rw e (grind (arith, nat_tests))
  | inr ne ↦ let later = times_there v xs (grind (arith, nat_tests, ne, there)) in omega (arith, later)
]

pub times-filter : (v : ℕ) (p : ℕ → Bool) (xs : List ℕ) → times v (filter p xs) ≡ cond (p v) (times v xs) 0
times-filter v p [] = grind (arith, nat_tests)
times-filter v p (x ∷ xs) = grind (arith, nat_tests, times-filter v p xs)

-- a vertex is in its range's part of a list as often as in the whole
pub in_range_times : (width v : ℕ) (xs : List ℕ) → times v (in_range width (range_of width v) xs) ≡ times v xs
in_range_times width v xs = times-filter v (λ u. eqb (range_of width u) (range_of width v)) xs ∙ ap (λ b. cond b (times v xs) 0) (eq-eqb (range_of width v) (range_of width v) refl)

-- one number more at the end
pub times_own : (v : ℕ) (xs : List ℕ) → times v (xs ++ v ∷ []) ≡ times v xs + 1
times_own v xs = times-append v xs (v ∷ []) ∙ grind (arith, nat_tests)

pub times_another : (v u : ℕ) (xs : List ℕ) → u ≢ v → times u (xs ++ v ∷ []) ≡ times u xs
times_another v u xs ne = times-append u xs (v ∷ []) ∙ grind (arith, nat_tests, ne)

-- in a rising list a number is once or not at all
pub times_rising : (v low : ℕ) (xs : List ℕ) → RisesFrom low xs → times v xs ≡ cond (has_number v xs) 1 0
times_rising v low [] up = refl
times_rising v low (x ∷ xs) up = grind (arith, nat_tests, times_rising v (suc x) xs up.1, has_number_below, times_none, up.1)

-- what was heard of a list up to a place
module _ (v i : ℕ) (xs : List ℕ) (at : i < length xs) where
  parts : take (i + 1) xs ≡ take i xs ++ get_or xs i 0 ∷ []
  parts = rw (add-one i) (take-suc xs i 0 at)

  pub times_more : times v (take (i + 1) xs) ≡ times v (take i xs) + cond (eqb (get_or xs i 0) v) 1 0
  times_more = ap (times v) parts ∙ times-append v (take i xs) (get_or xs i 0 ∷ []) ∙ grind (arith, nat_tests)

pub times_part : (v i : ℕ) (xs : List ℕ) → times v (take i xs) ≤ times v xs
times_part v i xs = omega (arith, sym (times-append v (take i xs) (drop i xs)) ∙ ap (times v) (take-append-drop i xs))

-- the rows of distinct vertices tell of v for each of them that is a neighbour of v, if it is asked
module _ (g : GraphShape) (graph : IsGraph g) (f : ℕ → Bool) (v : ℕ) where
  one_row : (s : ℕ) → times v (filter f (neighbours_of s g.edges)) ≡ cond (f v) (cond (has_number s (neighbours_of v g.edges)) 1 0) 0
  one_row s =
      times-filter v f (neighbours_of s g.edges)
      ∙ ap (λ k. cond (f v) k 0) (times_rising v 0 (neighbours_of s g.edges) (neighbours_rise g.vertices s g.edges graph) ∙ ap (λ b. cond b 1 0) (neighbours_both s v g.edges))

  one_more : (s : ℕ) (ss : List ℕ) → has_number s ss ≡ false → count_by (λ u. has_number u (s ∷ ss)) (neighbours_of v g.edges) ≡ cond (has_number s (neighbours_of v g.edges)) 1 0 + count_by (λ u. has_number u ss) (neighbours_of v g.edges)
  one_more s ss gone = elim (cases_Bool (has_number s (neighbours_of v g.edges))) [
    | inl near ↦
        let less = count_less (λ u. has_number u (s ∷ ss)) (λ u. has_number u ss) s 0 (neighbours_of v g.edges) (neighbours_rise g.vertices v g.edges graph) near (grind (arith, nat_tests)) gone (λ u ne. grind (arith, nat_tests, ne)) in
        rw near (omega (arith, less))
    | inr far ↦ grind (arith, nat_tests, count_agree, other, far)
  ]
    where
      other : has_number s (neighbours_of v g.edges) ≡ false → (u : ℕ) → has_number u (neighbours_of v g.edges) ≡ true → s ≢ u
      other far u there e = true≢false (sym there ∙ ap (λ k. has_number k (neighbours_of v g.edges)) (sym e) ∙ far)

  count_none : (xs : List ℕ) → count_by (λ u. has_number u []) xs ≡ 0
  count_none [] = refl
  count_none (x ∷ xs) = count_by-cons (λ u. has_number u []) x xs ∙ omega (arith, count_none xs)

  nothing : (b : Bool) (k : ℕ) → k ≡ 0 → cond b k 0 ≡ 0
  nothing b k none = grind (arith, nat_tests)

  sum : (b : Bool) (k m t a c : ℕ) → a ≡ cond b k 0 → c ≡ cond b m 0 → t ≡ k + m → a + c ≡ cond b t 0
  sum b k m t a c is too both = grind (arith, nat_tests)

  pub times_rows : (ss : List ℕ) → AreDistinct ss → times v (flat_map (λ s. filter f (neighbours_of s g.edges)) ss) ≡ cond (f v) (count_by (λ u. has_number u ss) (neighbours_of v g.edges)) 0
  times_rows [] once = sym (nothing (f v) _ (count_none (neighbours_of v g.edges)))
  times_rows (s ∷ ss) once = grind (arith, nat_tests, times_rows ss once.1, flat_map-cons, times-append, sum, one_row, one_more, once.1, once.0)
