-- Lemmas on ascending lists of numbers.
use Rattle.std.proofs.Common.{ℕ, suc, zero, ◌+◌, ◌-◌, ◌≤◌, ◌<◌, ◌≡◌, ◌≢◌, Bool, true, false, ◌||◌, ◌&&◌, eqb, ltb, List, [], ◌∷◌, ◌++◌, length, get_or, refl, arith, ap, sym, ◌∙◌, inl, inr, true≢false}
use Rattle.std.proofs.lemmas.Bool.{cases_eq, cases_lt}
use Rattle.std.proofs.lemmas.Bool.Decides.{nat_tests}
use Rattle.std.proofs.lemmas.List.{get_or_default}
use Rattle.std.specs.Prelude.{All, IsTrue, not, ◌↔◌}
use Rattle.kc_graph.specs.Numbers.{RisesFrom, AllBelow, has_number}
use Rattle.kc_graph.specs.private.Numbers.{put, without}

-- RisesFrom

pub rises_weaker : (low below : ℕ) (xs : List ℕ) → below ≤ low → RisesFrom low xs → RisesFrom below xs
rises_weaker low below [] le up = tt
rises_weaker low below (x ∷ xs) le up = (omega arith, up.1)

-- each number of the list is at least where it rises from
pub rises_at_least : (low : ℕ) (xs : List ℕ) (j : ℕ) → RisesFrom low xs → j < length xs → low ≤ get_or xs j 0
rises_at_least low [] j up h = absurd (omega arith)
rises_at_least low (x ∷ xs) zero up h = up.0
rises_at_least low (x ∷ xs) (suc j) up h =
    let later : suc x ≤ get_or xs j 0 = rises_at_least (suc x) xs j up.1 (omega arith) in omega arith

pub rises_in_order : (low : ℕ) (xs : List ℕ) (i j : ℕ) → RisesFrom low xs → i ≤ j → j < length xs → get_or xs i 0 ≤ get_or xs j 0
rises_in_order low [] i j up le h = absurd (omega arith)
rises_in_order low (x ∷ xs) zero zero up le h = omega arith
rises_in_order low (x ∷ xs) zero (suc j) up le h =
    let later : suc x ≤ get_or xs j 0 = rises_at_least (suc x) xs j up.1 (omega arith) in omega arith
rises_in_order low (x ∷ xs) (suc i) zero up le h = absurd (omega arith)
rises_in_order low (x ∷ xs) (suc i) (suc j) up le h = rises_in_order (suc x) xs i j up.1 (omega arith) (omega arith)

-- a rising list has no number below where it rises from
pub has_number_below : (low x : ℕ) (xs : List ℕ) → RisesFrom low xs → x < low → has_number x xs ≡ false
has_number_below low x [] up h = refl
has_number_below low x (y ∷ ys) up h = grind (arith, nat_tests, up.0, has_number_below (suc y) x ys up.1)

-- a rising list of numbers from `low` to below n is no longer than there are such numbers
pub length-rising : (n low : ℕ) (xs : List ℕ) → RisesFrom low xs → AllBelow n xs → low ≤ n → length xs + low ≤ n
length-rising n low [] up below h = omega arith
length-rising n low (x ∷ xs) up below h =
    let later : length xs + suc x ≤ n = length-rising n (suc x) xs up.1 below.1 (omega (arith, below.0)) in omega (arith, up.0)

-- has_number

pub has_number_at : (x : ℕ) (xs : List ℕ) (i : ℕ) → i < length xs → get_or xs i 0 ≡ x → has_number x xs ≡ true
has_number_at x [] i h e = absurd (omega arith)
has_number_at x (y ∷ ys) zero h e = grind (arith, nat_tests)
has_number_at x (y ∷ ys) (suc i) h e =
    let later : has_number x ys ≡ true = has_number_at x ys i (omega arith) e in grind (arith, nat_tests)

pub has_number_nowhere : (x : ℕ) (xs : List ℕ) → ((k : ℕ) → k < length xs → get_or xs k 0 ≢ x) → has_number x xs ≡ false
has_number_nowhere x [] none = refl
has_number_nowhere x (y ∷ ys) none =
    let here : y ≢ x = none 0 (omega arith) in
    let later : has_number x ys ≡ false = has_number_nowhere x ys (λ k h. none (suc k) (omega arith)) in
    grind (arith, nat_tests)

-- a number that is in the list stands at some place
pub has_number_index : (x : ℕ) (xs : List ℕ) → has_number x xs ≡ true → (i : ℕ) × (i < length xs) × (get_or xs i 0 ≡ x)
has_number_index x [] there = absurd (cc)
has_number_index x (y ∷ ys) there = go (eqb y x) refl (has_number_index x ys)
  where
    go : (b : Bool) → eqb y x ≡ b → (has_number x ys ≡ true → (i : ℕ) × (i < length ys) × (get_or ys i 0 ≡ x)) → (i : ℕ) × (i < length (y ∷ ys)) × (get_or (y ∷ ys) i 0 ≡ x)
    go true e later = (0, omega arith, grind (arith, nat_tests, e))
    go false e later =
        let rest = later (grind (arith, nat_tests, e, there)) in
        (suc rest.0, omega (arith, rest.1), rest.2)

pub has_number-append : (x : ℕ) (xs ys : List ℕ) → has_number x (xs ++ ys) ≡ has_number x xs || has_number x ys
has_number-append x [] ys = refl
has_number-append x (z ∷ zs) ys = grind (arith, nat_tests, has_number-append x zs ys)

pub has_number-push : (x y : ℕ) (xs : List ℕ) → has_number x (xs ++ y ∷ []) ≡ has_number x xs || eqb y x
has_number-push x y [] = grind (arith, nat_tests)
has_number-push x y (z ∷ zs) = grind (arith, nat_tests, has_number-push x y zs)

-- put

pub has_number-put : (x y : ℕ) (xs : List ℕ) → has_number x (put y xs) ≡ eqb y x || has_number x xs
has_number-put x y [] = refl
has_number-put x y (z ∷ zs) = grind (arith, nat_tests, has_number-put x y zs)

pub rises_from_put : (low x : ℕ) (xs : List ℕ) → RisesFrom low xs → low ≤ x → RisesFrom low (put x xs)
rises_from_put low x [] up le = (le, tt)
rises_from_put low x (y ∷ ys) up le = grind (arith, nat_tests, rises_from_put (suc y) x ys)

pub below_from_put : (n x : ℕ) (xs : List ℕ) → AllBelow n xs → x < n → AllBelow n (put x xs)
below_from_put n x [] low h = (h, tt)
below_from_put n x (y ∷ ys) low h =
    let later : AllBelow n (put x ys) = below_from_put n x ys low.1 h in grind (arith, nat_tests, low.0, low.1)

pub length-put : (x : ℕ) (xs : List ℕ) → has_number x xs ≡ false → length (put x xs) ≡ length xs + 1
length-put x [] absent = omega arith
length-put x (y ∷ ys) absent = grind (arith, nat_tests, length-put x ys, absent)

-- a number that is there already
pub put_present : (low x : ℕ) (xs : List ℕ) → RisesFrom low xs → has_number x xs ≡ true → put x xs ≡ xs
put_present low x [] up there = absurd (cc)
put_present low x (y ∷ ys) up there = grind (arith, nat_tests, there, put_present (suc y) x ys up.1, has_number_below (suc y) x ys up.1)

-- a number above all others
pub put_last : (x : ℕ) (xs : List ℕ) → ((k : ℕ) → k < length xs → get_or xs k 0 < x) → put x xs ≡ xs ++ x ∷ []
put_last x [] above = refl
put_last x (y ∷ ys) above =
    let here : y < x = above 0 (omega arith) in
    let later : put x ys ≡ ys ++ x ∷ [] = put_last x ys (λ k h. above (suc k) (omega arith)) in
    grind (arith, nat_tests)

-- without

pub without_absent : (x : ℕ) (xs : List ℕ) → has_number x xs ≡ false → without x xs ≡ xs
without_absent x [] absent = refl
without_absent x (y ∷ ys) absent = grind (arith, nat_tests, absent, without_absent x ys)

pub without-put : (x : ℕ) (xs : List ℕ) → has_number x xs ≡ false → without x (put x xs) ≡ xs
without-put x [] absent = grind (arith, nat_tests)
without-put x (y ∷ ys) absent = grind (arith, nat_tests, absent, without-put x ys, without_absent x ys)

pub has_number-without : (x y : ℕ) (xs : List ℕ) → has_number x (without y xs) ≡ not (eqb y x) && has_number x xs
has_number-without x y [] = grind (arith, nat_tests)
has_number-without x y (z ∷ zs) = grind (arith, nat_tests, has_number-without x y zs)

pub rises_without : (low x : ℕ) (xs : List ℕ) → RisesFrom low xs → RisesFrom low (without x xs)
rises_without low x [] up = tt
rises_without low x (y ∷ ys) up = grind (arith, nat_tests, rises_without (suc y) x ys, rises_weaker)

-- AllBelow

pub all_from_below : (n : ℕ) (xs : List ℕ) → AllBelow n xs → All (λ w. w < n) xs
all_from_below n [] low k d h = absurd (omega arith)
all_from_below n (x ∷ xs) low zero d h = low.0
all_from_below n (x ∷ xs) low (suc k) d h = all_from_below n xs low.1 k d (omega arith)

-- the numbers of a rising list are below x exactly where its last number is
pub all_below-last : (x last : ℕ) (xs : List ℕ) → RisesFrom 0 xs → 0 < length xs → last ≡ get_or xs (length xs - 1) 0 → IsTrue (ltb last x) ↔ All (λ y. y < x) xs
all_below-last x last xs up some is = (from_last, to_last)
  where
    from_last : IsTrue (ltb last x) → All (λ y. y < x) xs
    from_last told k d h =
        let same : get_or xs k d ≡ get_or xs k 0 = get_or_default xs k d 0 h in
        let less : last < x = grind (arith, nat_tests, told) in
        omega (arith, same, rises_in_order 0 xs k (length xs - 1) up (omega arith) (omega arith))

    to_last : All (λ y. y < x) xs → IsTrue (ltb last x)
    to_last all = let less = all (length xs - 1) 0 (omega arith) in grind (arith, nat_tests, less, is)

-- rising lists of the same numbers are the same
pub same_rising : (low : ℕ) (xs ys : List ℕ) → RisesFrom low xs → RisesFrom low ys → ((v : ℕ) → has_number v xs ≡ has_number v ys) → xs ≡ ys
same_rising low [] [] up down same = refl
same_rising low [] (y ∷ ys) up down same = absurd (true≢false (sym (same y ∙ grind (arith, nat_tests))))
same_rising low (x ∷ xs) [] up down same = absurd (true≢false (sym (sym (same x) ∙ grind (arith, nat_tests))))
same_rising low (x ∷ xs) (y ∷ ys) up down same = elim (cases_eq x y) [
  | inl e ↦ rw e (ap (λ zs. y ∷ zs) (same_rising (suc y) xs ys (rw (← e) up.1) down.1 (λ v. later v e)))
  | inr ne ↦ elim (cases_lt x y) [
    | inl lt ↦ absurd (true≢false (sym (here x xs) ∙ same x ∙ has_number_below y x (y ∷ ys) (omega arith, down.1) lt))
    | inr ge ↦ absurd (true≢false (sym (here y ys) ∙ sym (same y) ∙ has_number_below x y (x ∷ xs) (omega arith, up.1) (omega (arith, ge, ne))))
  ]
]
  where
    here : (v : ℕ) (vs : List ℕ) → has_number v (v ∷ vs) ≡ true
    here v vs = grind (arith, nat_tests)

    later : (v : ℕ) → x ≡ y → has_number v xs ≡ has_number v ys
    later v e = grind (arith, nat_tests, has_number_below, up.1, down.1)
