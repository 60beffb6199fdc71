-- Lemmas on counts below a number.
use Rattle.std.proofs.Common.{ℕ, suc, zero, ◌+◌, ◌≤◌, ◌<◌, ◌≡◌, Bool, true, false, ◌||◌, ◌&&◌, eqb, cond, List, [], ◌∷◌, refl, ap, sym, ◌∙◌, inl, inr, arith}
use Rattle.std.proofs.lemmas.Bool.Decides.{nat_tests}
use Rattle.std.proofs.lemmas.Bool.{cases_lt, cases_eq}
use Rattle.std.proofs.lemmas.List.Sums.{sum_by-cons}
use Rattle.std.specs.Prelude.{count_by}
use Rattle.kc_graph.specs.Numbers.{RisesFrom, AllBelow, has_number, count_below}
use Rattle.kc_graph.specs.private.Numbers.{put, without}
use Rattle.kc_graph.proofs.NumberLemmas.{has_number_below, without_absent}

pub count_by-cons : {X : Type 0} (p : X → Bool) (x : X) (xs : List X) → count_by p (x ∷ xs) ≡ cond (p x) 1 0 + count_by p xs
count_by-cons p x xs = sum_by-cons (λ y. cond (p y) 1 0) x xs

swap : (a b c : ℕ) → a + (b + c) ≡ b + (a + c)
swap a b c = omega arith

pub count_by-put : (p : ℕ → Bool) (x : ℕ) (xs : List ℕ) → has_number x xs ≡ false → count_by p (put x xs) ≡ cond (p x) 1 0 + count_by p xs
count_by-put p x [] absent = count_by-cons p x []
count_by-put p x (y ∷ ys) absent =
    elim (cases_lt x y) [
      | inl less ↦
          let first : put x (y ∷ ys) ≡ x ∷ y ∷ ys = grind (arith, nat_tests) in
          ap (count_by p) first ∙ count_by-cons p x (y ∷ ys)
      | inr most ↦
          let later : put x (y ∷ ys) ≡ y ∷ put x ys = grind (arith, nat_tests, absent) in
          ap (count_by p) later
          ∙ count_by-cons p y (put x ys)
          ∙ ap (λ m. cond (p y) 1 0 + m) (count_by-put p x ys (grind (arith, nat_tests, absent)))
          ∙ swap (cond (p y) 1 0) (cond (p x) 1 0) (count_by p ys)
          ∙ ap (λ m. cond (p x) 1 0 + m) (sym (count_by-cons p y ys))
    ]

pub count_by-without : (p : ℕ → Bool) (low x : ℕ) (xs : List ℕ) → RisesFrom low xs → has_number x xs ≡ true → cond (p x) 1 0 + count_by p (without x xs) ≡ count_by p xs
count_by-without p low x [] up there = absurd (cc)
count_by-without p low x (y ∷ ys) up there =
    elim (cases_eq y x) [
      | inl is ↦
          let rest : without x ys ≡ ys = without_absent x ys (has_number_below (suc y) x ys up.1 (omega arith)) in
          let first : without x (y ∷ ys) ≡ ys = grind (arith, nat_tests, rest) in
          ap (λ (zs : List ℕ). cond (p x) 1 0 + count_by p zs) first
          ∙ ap (λ (z : ℕ). cond (p z) 1 0 + count_by p ys) (sym is)
          ∙ sym (count_by-cons p y ys)
      | inr other ↦
          let later : without x (y ∷ ys) ≡ y ∷ without x ys = grind (arith, nat_tests) in
          ap (λ (zs : List ℕ). cond (p x) 1 0 + count_by p zs) later
          ∙ ap (λ m. cond (p x) 1 0 + m) (count_by-cons p y (without x ys))
          ∙ swap (cond (p x) 1 0) (cond (p y) 1 0) (count_by p (without x ys))
          ∙ ap (λ m. cond (p y) 1 0 + m) (count_by-without p (suc y) x ys up.1 (grind (arith, nat_tests, there)))
          ∙ sym (count_by-cons p y ys)
    ]

-- two tests that agree below n
pub count_below_agree : (n : ℕ) (p q : ℕ → Bool) → ((k : ℕ) → k < n → p k ≡ q k) → count_below n p ≡ count_below n q
count_below_agree zero p q same = refl
count_below_agree (suc n) p q same = grind (arith, nat_tests, count_below_agree n p q (λ k h. same k (omega arith)))

bit_le : (a b : Bool) → (a ≡ true → b ≡ true) → cond a 1 0 ≤ cond b 1 0
bit_le true b h = rw (h refl) (omega arith)
bit_le false b h = omega arith

-- a test that passes wherever another does counts no less
pub count_below-mono : (n : ℕ) (p q : ℕ → Bool) → ((k : ℕ) → k < n → p k ≡ true → q k ≡ true) → count_below n p ≤ count_below n q
count_below-mono zero p q more = omega arith
count_below-mono (suc n) p q more = grind (arith, nat_tests, count_below-mono n p q (λ k h. more k (omega arith)), bit_le)

pub count_below-le : (n : ℕ) (p : ℕ → Bool) → count_below n p ≤ n
count_below-le zero p = omega arith
count_below-le (suc n) p =
    let here = bit_le (p n) true (λ _. refl) in omega (arith, here, count_below-le n p)

-- a number from n on adds nothing to the count
or_past : (n x : ℕ) (p q : ℕ → Bool) → n ≤ x → count_below n (λ w. (eqb x w || q w) && p w) ≡ count_below n (λ w. q w && p w)
or_past n x p q h = count_below_agree n (λ w. (eqb x w || q w) && p w) (λ w. q w && p w) (λ k below. grind (arith, nat_tests))

-- one more number is counted where it passes
or_one : (n x : ℕ) (p q : ℕ → Bool) → x < n → q x ≡ false → count_below n (λ w. (eqb x w || q w) && p w) ≡ cond (p x) 1 0 + count_below n (λ w. q w && p w)
or_one zero x p q h new = absurd (omega arith)
or_one (suc n) x p q h new =
    elim (cases_lt x n) [
      | inl less ↦
          let here : ((eqb x n || q n) && p n) ≡ (q n && p n) = grind (arith, nat_tests) in
          rw (here, or_one n x p q less new) (omega arith)
      | inr most ↦
          let is : x ≡ n = omega arith in
          let here : ((eqb x n || q n) && p n) ≡ p x = grind (arith, nat_tests, is) in
          let none : (q n && p n) ≡ false = grind (arith, nat_tests, is, new) in
          rw (here, none, or_past n x p q (omega arith)) (omega arith)
    ]

-- counting over a rising list is counting over all numbers below n that are in it
pub count_by-rising : (n low : ℕ) (p : ℕ → Bool) (xs : List ℕ) → RisesFrom low xs → AllBelow n xs → count_by p xs ≡ count_below n (λ w. has_number w xs && p w)
count_by-rising n low p [] up below = sym (none n)
  where
    none : (m : ℕ) → count_below m (λ w. false && p w) ≡ 0
    none zero = refl
    none (suc m) = rw (none m) refl
count_by-rising n low p (x ∷ xs) up below =
    count_by-cons p x xs
    ∙ ap (λ m. cond (p x) 1 0 + m) (count_by-rising n (suc x) p xs up.1 below.1)
    ∙ sym (or_one n x p (λ w. has_number w xs) below.0 (has_number_below (suc x) x xs up.1 (omega arith)))
