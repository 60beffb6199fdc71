-- How many updates there are of all clients together.
use Rattle.std.proofs.Common.{ℕ, zero, suc, ◌≡◌, ◌≤◌, ◌<◌, ◌+◌, ◌==◌, Bool, true, false, cond, List, [], ◌∷◌, length, get_or, refl, sym, ◌∙◌, arith}
use Rattle.std.specs.Prelude.{All}
use Rattle.std.specs.List.{sum_by}
use Rattle.std.proofs.lemmas.Bool.Decides.{nat_tests}
use Rattle.std.proofs.lemmas.List.Elements.{All-head, All-tail}
use Rattle.std.proofs.lemmas.List.Sums.{sum_by-cons}
use Rattle.kc_intake.specs.declared.updates.Update.{Update}
use Rattle.kc_intake.specs.Updates.{updates_of}

-- the sum of f over the numbers below k
abbrev pub total : ℕ → (ℕ → ℕ) → ℕ
total zero f = 0
total (suc k) f = f 0 + total k (λ c. f (suc c))

total_zero : (k : ℕ) → total k (λ c. 0) ≡ 0
total_zero zero = refl
total_zero (suc k) = omega (arith, total_zero k)

total_both : (k : ℕ) (f g : ℕ → ℕ) → total k (λ c. f c + g c) ≡ total k f + total k g
total_both zero f g = refl
total_both (suc k) f g = omega (arith, total_both k (λ c. f (suc c)) (λ c. g (suc c)))

pub total_same : (k : ℕ) (f g : ℕ → ℕ) → ((c : ℕ) → c < k → f c ≡ g c) → total k f ≡ total k g
total_same zero f g e = refl
total_same (suc k) f g e = omega (arith, e 0 (omega arith), total_same k (λ c. f (suc c)) (λ c. g (suc c)) (λ c lt. e (suc c) (omega (arith, lt))))

total_le : (k : ℕ) (f g : ℕ → ℕ) → ((c : ℕ) → c < k → f c ≤ g c) → total k f ≤ total k g
total_le zero f g e = omega arith
total_le (suc k) f g e = omega (arith, e 0 (omega arith), total_le k (λ c. f (suc c)) (λ c. g (suc c)) (λ c lt. e (suc c) (omega (arith, lt))))

-- where each is at most another, and all together are as many, each is as many
pub each_as_many : (k : ℕ) (f g : ℕ → ℕ) → ((c : ℕ) → c < k → f c ≤ g c) → total k g ≤ total k f → (c : ℕ) → c < k → f c ≡ g c
each_as_many zero f g e all c lt = absurd (omega (arith, lt))
each_as_many (suc k) f g e all zero lt = omega (arith, e 0 (omega arith), all, total_le k (λ c. f (suc c)) (λ c. g (suc c)) (λ c lt. e (suc c) (omega (arith, lt))))
each_as_many (suc k) f g e all (suc c) lt =
    each_as_many k (λ c. f (suc c)) (λ c. g (suc c)) (λ c lt. e (suc c) (omega (arith, lt))) (omega (arith, e 0 (omega arith), all)) c (omega (arith, lt))

abbrev one_at : ℕ → ℕ → ℕ
one_at j c = cond (j == c) 1 0

one_more : (j c : ℕ) → one_at (suc j) (suc c) ≡ one_at j c
one_more j c = grind (arith, nat_tests)

total_one : (k j : ℕ) → j < k → total k (one_at j) ≡ 1
total_one zero j lt = absurd (omega (arith, lt))
total_one (suc k) zero lt =
    let rest : total k (λ c. one_at 0 (suc c)) ≡ 0 = total_same k (λ c. one_at 0 (suc c)) (λ c. 0) (λ c lt. grind (arith, nat_tests)) ∙ total_zero k in
    omega (arith, rest)
total_one (suc k) (suc j) lt =
    let rest : total k (λ c. one_at (suc j) (suc c)) ≡ total k (one_at j) = total_same k (λ c. one_at (suc j) (suc c)) (one_at j) (λ c lt. one_more j c) in
    let first : one_at (suc j) 0 ≡ 0 = grind (arith, nat_tests) in
    omega (arith, first, rest, total_one k j (omega (arith, lt)))

of_first : (c : ℕ) (u : Update) (us : List Update) → length (updates_of c (u ∷ us)) ≡ one_at u.client c + length (updates_of c us)
of_first c u us = go (u.client == c)
  where
    go : (b : Bool) → length (cond b (u ∷ updates_of c us) (updates_of c us)) ≡ cond b 1 0 + length (updates_of c us)
    go true = omega arith
    go false = omega arith

-- the updates of all clients are all updates
pub all_clients : (k : ℕ) (us : List Update) → All (λ u. u.client < k) us → length us ≡ total k (λ c. length (updates_of c us))
all_clients k [] all = sym (total_zero k)
all_clients k (u ∷ us) all =
    let rest = all_clients k us (All-tail (λ u. u.client < k) u us all) in
    let one = total_one k u.client (All-head (λ u. u.client < k) u us all) in
    let both : total k (λ c. length (updates_of c (u ∷ us))) ≡ total k (one_at u.client) + total k (λ c. length (updates_of c us)) =
    total_same k (λ c. length (updates_of c (u ∷ us))) (λ c. one_at u.client c + length (updates_of c us)) (λ c lt. of_first c u us) ∙ total_both k (one_at u.client) (λ c. length (updates_of c us)) in
    omega (arith, rest, one, both)

-- the sum of the lengths of lists
pub all_lists : {X : Type 0} (lists : List (List X)) → sum_by length lists ≡ total (length lists) (λ c. length (get_or lists c []))
all_lists [] = refl
all_lists {X = X} (xs ∷ lists) =
    let rest = all_lists lists in
    let first : length (get_or (xs ∷ lists) 0 []) ≡ length xs = refl in
    let others : total (length lists) (λ c. length (get_or (xs ∷ lists) (suc c) [])) ≡ total (length lists) (λ c. length (get_or lists c [])) = refl in
    let sum : sum_by length (xs ∷ lists) ≡ length xs + sum_by length lists = sum_by-cons length xs lists in
    omega (arith, rest, first, others, sum)
