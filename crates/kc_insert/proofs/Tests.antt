-- Tests on truth values and numbers, and counts of what passes.
use Rattle.std.proofs.Common.{ℕ, ◌+◌, ◌<◌, ◌≡◌, ◌≢◌, inl, inr, Bool, true, false, cond, eqb, not, ◌&&◌, ◌||◌, List, [], ◌∷◌, map, filter, refl, ap, sym, arith, suc}
use Rattle.std.specs.Prelude.{count_by}
use Rattle.std.proofs.lemmas.Bool.{ne_eqb, true≢false, cases_eq}
use Rattle.std.proofs.lemmas.Bool.Decides.{nat_tests}
use Rattle.kc_graph.specs.Numbers.{has_number, RisesFrom}
use Rattle.kc_graph.specs.Shape.{Pair}
use Rattle.kc_graph.proofs.lemmas.Counts.{count_by-cons}
use Rattle.kc_graph.proofs.lemmas.Numbers.{has_number_below}
use Rattle.kc_insert.specs.private.Telling.{times}

pub and_first : (a b : Bool) → a && b ≡ true → a ≡ true
and_first a b e = grind (arith, nat_tests)

pub and_second : (a b : Bool) → a && b ≡ true → b ≡ true
and_second a b e = grind (arith, nat_tests)

pub and_on : (a b : Bool) → a ≡ true → a && b ≡ b
and_on a b e = rw e refl

pub or_either : (a b : Bool) → a || b ≡ true → a ≡ false → b ≡ true
or_either a b e f = grind (arith, nat_tests)

pub or_off : (a b : Bool) → b ≡ false → a || b ≡ a
or_off a b e = grind (arith, nat_tests)

pub not_second : (a b : Bool) → a ≡ true → a && not b ≡ false → b ≡ true
not_second a b e f = grind (arith, nat_tests, e, f)

pub less_differs : (a b : ℕ) → a < b → not (eqb a b) ≡ true
less_differs a b lt = grind (arith, nat_tests, lt)

-- one for a test that passes
abbrev pub bit : Bool → ℕ
bit b = cond b 1 0

pub sum_first : (p a b c : Bool) → p ≡ true → a ≡ true → b ≡ false → c ≡ false → bit p ≡ bit a + (bit b + bit c)
sum_first p a b c e f i j = rw (e, f, i, j) refl

pub sum_second : (p a b c : Bool) → p ≡ true → a ≡ false → b ≡ true → c ≡ false → bit p ≡ bit a + (bit b + bit c)
sum_second p a b c e f i j = rw (e, f, i, j) refl

pub sum_third : (p a b c : Bool) → p ≡ true → a ≡ false → b ≡ false → c ≡ true → bit p ≡ bit a + (bit b + bit c)
sum_third p a b c e f i j = rw (e, f, i, j) refl

pub sum_none : (p a b c : Bool) → p ≡ false → a ≡ false → b ≡ false → c ≡ false → bit p ≡ bit a + (bit b + bit c)
sum_none p a b c e f i j = rw (e, f, i, j) refl

-- a count in three parts
pub count_parts : (p a b c : ℕ → Bool) (xs : List ℕ) → ((u : ℕ) → has_number u xs ≡ true → bit (p u) ≡ bit (a u) + (bit (b u) + bit (c u))) → count_by p xs ≡ count_by a xs + (count_by b xs + count_by c xs)
count_parts p a b c [] each = refl
count_parts p a b c (x ∷ xs) each = grind (arith, nat_tests, count_parts p a b c xs (λ u there. each u (grind (arith, nat_tests, there))), count_by-cons)

pub count_none : (p : ℕ → Bool) (xs : List ℕ) → ((u : ℕ) → has_number u xs ≡ true → p u ≡ false) → count_by p xs ≡ 0
count_none p [] none = refl
count_none p (x ∷ xs) none = grind (arith, nat_tests, count_none p xs (λ u there. none u (grind (arith, nat_tests, there))), count_by-cons)

-- no pair that passes has v first if v fails
pub firsts_none : (p : ℕ → Bool) (q : Pair → Bool) (v : ℕ) (es : List Pair) → p v ≡ false → times v (map (λ (e : Pair). e.0) (filter (λ (e : Pair). p e.0 && q e) es)) ≡ 0
firsts_none p q v [] fails = refl
firsts_none p q v (e ∷ es) fails = grind (arith, nat_tests, firsts_none p q v es fails, ne_eqb, true≢false, and_first)

-- two tests that agree on the numbers of a list count the same
pub count_agree : (p q : ℕ → Bool) (xs : List ℕ) → ((x : ℕ) → has_number x xs ≡ true → p x ≡ q x) → count_by p xs ≡ count_by q xs
count_agree p q [] same = refl
count_agree p q (x ∷ xs) same = grind (arith, nat_tests, count_agree p q xs (λ y there. same y (grind (arith, nat_tests, there))), count_by-cons)

-- the test p passes one number more of a rising list than q does
pub count_less : (p q : ℕ → Bool) (v low : ℕ) (xs : List ℕ) → RisesFrom low xs → has_number v xs ≡ true → p v ≡ true → q v ≡ false → ((x : ℕ) → x ≢ v → p x ≡ q x) → count_by p xs ≡ count_by q xs + 1
count_less p q v low [] up there yes_ no_ same = absurd (true≢false (sym there))
count_less p q v low (x ∷ xs) up there yes_ no_ same = elim (cases_eq x v) [
  | inl e ↦ grind (arith, nat_tests, has_number_below, count_agree, true≢false, count_by-cons, up.1, e)
  | inr ne ↦
      let later = count_less p q v (suc x) xs up.1 (grind (arith, nat_tests, there, ne)) yes_ no_ same in
      let here : cond (p x) 1 0 + 0 ≡ cond (q x) 1 0 + 0 = ap (λ b. cond b 1 0 + 0) (same x ne) in
      omega (arith, count_by-cons p x xs, count_by-cons q x xs, later, here)
]
