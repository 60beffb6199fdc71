-- Lists whose numbers each stand once, and the sets of their numbers.
use Rattle.std.proofs.Common.{ℕ, suc, zero, ◌+◌, ◌≡◌, ◌≢◌, inl, inr, Bool, true, false, ◌||◌, cond, eqb, ltb, List, [], ◌∷◌, length, get_or, refl, ap, sym, ◌∙◌, arith}
use Rattle.std.specs.Prelude.{count_by, All}
use Rattle.std.specs.List.{list_any}
use Rattle.std.specs.List.Sorted.{IsPermutation}
use Rattle.std.proofs.lemmas.Bool.{cases_eq, eq-eqb, ne_eqb}
use Rattle.std.proofs.lemmas.Bool.Decides.{nat_tests}
use Rattle.std.proofs.lemmas.List.Elements.{All-from_get_or}
use Rattle.std.proofs.lemmas.List.Sorted.{list_any-IsPermutation}
use Rattle.kc_graph.specs.Numbers.{has_number, RisesFrom}
use Rattle.kc_graph.specs.private.Numbers.{without}
use Rattle.kc_graph.proofs.lemmas.Counts.{count_by-cons}
use Rattle.kc_graph.proofs.lemmas.Numbers.{has_number_below, has_number-without, without_absent, has_number_index, has_number_at}
use Rattle.kc_dense.specs.Sets.{members_of, IsOnce}

-- the first number of a list is in it, and another is where it is in the rest
pub has_first : (x : ℕ) (xs : List ℕ) → has_number x (x ∷ xs) ≡ true
has_first x xs = rw (eq-eqb x x refl) refl

pub has_other : (u x : ℕ) (xs : List ℕ) → u ≢ x → has_number u (x ∷ xs) ≡ has_number u xs
has_other u x xs ne = rw (ne_eqb x u (λ e. ne (sym e))) refl

pub has_rest : (u x : ℕ) (xs : List ℕ) → has_number u xs ≡ true → has_number u (x ∷ xs) ≡ true
has_rest u x xs e = grind (arith, e)

-- where two lists each have their first number once, and have the same numbers, and the same first one
pub same_rest : (x : ℕ) (xs ys : List ℕ) → IsOnce (x ∷ xs) → IsOnce (x ∷ ys) → ((u : ℕ) → has_number u (x ∷ xs) ≡ has_number u (x ∷ ys)) → (u : ℕ) → has_number u xs ≡ has_number u ys
same_rest x xs ys once_x once_y same u = grind (arith, nat_tests)

pub once_from_rising : (low : ℕ) (xs : List ℕ) → RisesFrom low xs → IsOnce xs
once_from_rising low [] rises = tt
once_from_rising low (x ∷ xs) rises = (has_number_below (suc x) x xs rises.1 (omega arith), once_from_rising (suc x) xs rises.1)

-- a list without one of its numbers
pub once_without : (v : ℕ) (xs : List ℕ) → IsOnce xs → IsOnce (without v xs)
once_without v [] once = tt
once_without v (x ∷ xs) once = grind (arith, nat_tests, once_without v xs once.1, has_number-without, once.1, once.0)

pub length-without : (v : ℕ) (xs : List ℕ) → IsOnce xs → has_number v xs ≡ true → length (without v xs) + 1 ≡ length xs
length-without v [] once e = cc
length-without v (x ∷ xs) once e = elim (cases_eq x v) [
  | inl same ↦ grind (arith, nat_tests, eq-eqb, without_absent, once.0, same)
  | inr ne ↦
      let there : has_number v xs ≡ true = sym (has_other v x xs (λ f. ne (sym f))) ∙ e in
      rw (ne_eqb x v ne) (omega (arith, length-without v xs once.1 there))
]

-- how many of a list are in another list that it has whole
pub count_by-agree : (p q : ℕ → Bool) (xs : List ℕ) → ((u : ℕ) → has_number u xs ≡ true → p u ≡ q u) → count_by p xs ≡ count_by q xs
count_by-agree p q [] same = refl
count_by-agree p q (x ∷ xs) same = grind (arith, nat_tests, count_by-agree p q xs (λ u e. same u (has_rest u x xs e)), count_by-cons, has_first, has_rest)

pub count_by-none : (p : ℕ → Bool) (xs : List ℕ) → ((u : ℕ) → has_number u xs ≡ true → p u ≡ false) → count_by p xs ≡ 0
count_by-none p [] none = refl
count_by-none p (x ∷ xs) none = rw (count_by-cons p x xs, none x (has_first x xs)) (omega (arith, count_by-none p xs (λ u e. none u (has_rest u x xs e))))

-- one number more passes
pub count_by-one_more : (p q : ℕ → Bool) (v : ℕ) (xs : List ℕ) → IsOnce xs → ((u : ℕ) → u ≢ v → p u ≡ q u) → p v ≡ true → q v ≡ false → count_by p xs ≡ count_by q xs + cond (has_number v xs) 1 0
count_by-one_more p q v [] once same before after = refl
count_by-one_more p q v (x ∷ xs) once same before after = grind (arith, nat_tests, count_by-one_more p q v xs once.1 same before after, count_by-cons, eq-eqb, ne_eqb, once.1, once.0)

pub count_by-members : (xs ys : List ℕ) → IsOnce xs → IsOnce ys → ((u : ℕ) → has_number u xs ≡ true → has_number u ys ≡ true) → count_by (members_of xs) ys ≡ length xs
count_by-members [] ys once_x once_y inside = count_by-none (members_of []) ys (λ u e. refl)
count_by-members (x ∷ xs) ys once_x once_y inside =
    let more = count_by-one_more (members_of (x ∷ xs)) (members_of xs) x ys once_y (λ u ne. has_other u x xs ne) (has_first x xs) once_x.0 in
    let here : has_number x ys ≡ true = inside x (has_first x xs) in
    let later = count_by-members xs ys once_x.1 once_y (λ u e. inside u (has_rest u x xs e)) in
    omega (arith, rw here at more, later)

pub count_by-all : (p : ℕ → Bool) (xs : List ℕ) → ((u : ℕ) → has_number u xs ≡ true → p u ≡ true) → count_by p xs ≡ length xs
count_by-all p [] all = refl
count_by-all p (x ∷ xs) all = rw (count_by-cons p x xs, all x (has_first x xs)) (omega (arith, count_by-all p xs (λ u e. all u (has_rest u x xs e))))

-- two lists that have the same numbers, each once, are equally long
pub same_length : (xs ys : List ℕ) → IsOnce xs → IsOnce ys → ((u : ℕ) → has_number u xs ≡ has_number u ys) → length xs ≡ length ys
same_length xs ys once_x once_y same = grind (arith, nat_tests, count_by-members, count_by-all)

-- all vertices, the greatest first
abbrev pub all_below : ℕ → List ℕ
all_below zero = []
all_below (suc n) = n ∷ all_below n

pub has_number-all_below : (u n : ℕ) → has_number u (all_below n) ≡ ltb u n
has_number-all_below u zero = grind (arith, nat_tests)
has_number-all_below u (suc n) = rw (has_number-all_below u n) (grind (arith, nat_tests))

pub once_all_below : (n : ℕ) → IsOnce (all_below n)
once_all_below zero = tt
once_all_below (suc n) = (rw (has_number-all_below n n) (grind (arith, nat_tests)), once_all_below n)

pub length-all_below : (n : ℕ) → length (all_below n) ≡ n
length-all_below zero = refl
length-all_below (suc n) = ap suc (length-all_below n)

pub has_number-permutation : (u : ℕ) (xs ys : List ℕ) → IsPermutation xs ys → has_number u xs ≡ has_number u ys
has_number-permutation u xs ys moved = any xs ∙ list_any-IsPermutation (λ y. eqb y u) xs ys moved ∙ sym (any ys)
  where
    any : (zs : List ℕ) → has_number u zs ≡ list_any (λ y. eqb y u) zs
    any [] = refl
    any (z ∷ zs) = ap (λ b. eqb z u || b) (any zs)

-- what All says of a number of the list
pub all_at : (P : ℕ → Type 0) (xs : List ℕ) (u : ℕ) → All P xs → has_number u xs ≡ true → P u
all_at P xs u all e = grind (arith, nat_tests, has_number_index)

pub all_from : (P : ℕ → Type 0) (xs : List ℕ) → ((u : ℕ) → has_number u xs ≡ true → P u) → All P xs
all_from P xs each = All-from_get_or P xs 0 (λ i h. each (get_or xs i 0) (has_number_at (get_or xs i 0) xs i h refl))
