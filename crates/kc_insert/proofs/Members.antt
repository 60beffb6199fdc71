-- Lists of the same numbers, and of distinct ones.
use Rattle.std.proofs.Common.{ℕ, ◌+◌, ◌≡◌, ◌≢◌, inl, inr, Bool, true, false, eqb, not, ◌&&◌, ◌||◌, List, [], ◌∷◌, ◌++◌, length, filter, refl, ap, sym, ◌∙◌, arith, suc, zero, ◌≤◌, ◌<◌}
use Rattle.std.proofs.lemmas.Bool.{cases_eq, true≢false}
use Rattle.std.proofs.lemmas.Bool.Decides.{nat_tests}
use Rattle.kc_graph.specs.Numbers.{has_number, RisesFrom}
use Rattle.kc_graph.specs.Shape.{GraphShape, neighbours_of}
use Rattle.kc_graph.proofs.lemmas.Numbers.{has_number-append, has_number_below}
use Rattle.kc_levels.specs.Following.{AreDistinct}
use Rattle.kc_adj.specs.Degrees.{degrees}
use Rattle.kc_insert.proofs.Buckets.{has_number-filter}

pub filter_yes : (p : ℕ → Bool) (v : ℕ) (vs : List ℕ) → p v ≡ true → filter p (v ∷ vs) ≡ v ∷ filter p vs
filter_yes p v vs e = grind (arith, nat_tests, e)

pub filter_no : (p : ℕ → Bool) (v : ℕ) (vs : List ℕ) → p v ≡ false → filter p (v ∷ vs) ≡ filter p vs
filter_no p v vs e = grind (arith, nat_tests, e)

-- tests that agree on the numbers of a list keep the same of them
pub filter_agree : (p q : ℕ → Bool) (vs : List ℕ) → ((v : ℕ) → has_number v vs ≡ true → p v ≡ q v) → filter p vs ≡ filter q vs
filter_agree p q [] same = refl
filter_agree p q (v ∷ vs) same = grind (arith, nat_tests, filter_agree p q vs (λ u there. same u (grind (arith, nat_tests, there))), filter_yes, filter_no)

pub filter_all : (p : ℕ → Bool) (vs : List ℕ) → ((v : ℕ) → has_number v vs ≡ true → p v ≡ true) → filter p vs ≡ vs
filter_all p [] all = refl
filter_all p (v ∷ vs) all = filter_yes p v vs (all v (grind (arith, nat_tests))) ∙ ap (λ us. v ∷ us) (filter_all p vs (λ u there. all u (grind (arith, nat_tests, there))))

pub none_in : (vs : List ℕ) → ((v : ℕ) → has_number v vs ≡ false) → vs ≡ []
none_in [] none = refl
none_in (v ∷ vs) none = absurd (true≢false (sym (grind (arith, nat_tests)) ∙ none v))

pub distinct_filter : (test : ℕ → Bool) (vs : List ℕ) → AreDistinct vs → AreDistinct (filter test vs)
distinct_filter test [] d = record {}
distinct_filter test (v ∷ vs) d = grind (arith, nat_tests, distinct_filter test vs d.1, filter_yes, filter_no, has_number-filter, d.1, d.0)

pub distinct_append : (us vs : List ℕ) → AreDistinct us → AreDistinct vs → ((u : ℕ) → has_number u us ≡ true → has_number u vs ≡ false) → AreDistinct (us ++ vs)
distinct_append [] vs d e apart = e
distinct_append (u ∷ us) vs d e apart = grind (arith, nat_tests, distinct_append us vs d.1 e (λ w there. apart w (grind (arith, nat_tests, there))), has_number-append, d.0, d.1)

-- all but one number
abbrev but : ℕ → ℕ → Bool
but v u = not (eqb u v)

-- a weight for each number of the list
abbrev pub weigh : (ℕ → ℕ) → List ℕ → ℕ
weigh f [] = 0
weigh f (v ∷ vs) = f v + weigh f vs

pub weigh-append : (f : ℕ → ℕ) (us vs : List ℕ) → weigh f (us ++ vs) ≡ weigh f us + weigh f vs
weigh-append f [] vs = omega arith
weigh-append f (u ∷ us) vs = omega (arith, weigh-append f us vs)

pub weigh_degrees : (g : GraphShape) (vs : List ℕ) → weigh (λ v. length (neighbours_of v g.edges)) vs ≡ degrees g vs
weigh_degrees g [] = refl
weigh_degrees g (v ∷ vs) = omega (arith, weigh_degrees g vs)

pub weigh_length : (vs : List ℕ) → weigh (λ v. 1) vs ≡ length vs
weigh_length [] = refl
weigh_length (v ∷ vs) = omega (arith, weigh_length vs)

weigh_but : (f : ℕ → ℕ) (v : ℕ) (vs : List ℕ) → AreDistinct vs → has_number v vs ≡ true → weigh f vs ≡ f v + weigh f (filter (but v) vs)
weigh_but f v [] once there = absurd (true≢false (sym there))
weigh_but f v (u ∷ us) once there = elim (cases_eq u v) [
  | inl e ↦ grind (arith, nat_tests, filter_all, other, filter_no, e)
  | inr ne ↦
      let later : has_number v us ≡ true = grind (arith, nat_tests, there, ne) in
      let kept : filter (but v) (u ∷ us) ≡ u ∷ filter (but v) us = filter_yes (but v) u us (grind (arith, nat_tests, ne)) in
      omega (arith, ap (weigh f) kept, weigh_but f v us once.1 later)
]
  where
    other : u ≡ v → (w : ℕ) → has_number w us ≡ true → w ≢ v
    other e w at f = true≢false (sym at ∙ ap (λ t. has_number t us) (f ∙ sym e) ∙ once.0)

-- the weight depends on which numbers are in the list, and not on their order
pub weigh_same : (f : ℕ → ℕ) (vs us : List ℕ) → AreDistinct vs → AreDistinct us → ((v : ℕ) → has_number v vs ≡ has_number v us) → weigh f vs ≡ weigh f us
weigh_same f [] us once too same = ap (weigh f) (sym (none_in us (λ v. sym (same v))))
weigh_same f (v ∷ vs) us once too same =
    let here : has_number v us ≡ true = sym (same v) ∙ grind (arith, nat_tests) in
    let rest : weigh f vs ≡ weigh f (filter (but v) us) = weigh_same f vs (filter (but v) us) once.1 (distinct_filter (but v) us too) (λ u. left u ∙ sym (has_number-filter u (but v) us)) in
    omega (arith, rest, weigh_but f v us too here)
  where
    left : (u : ℕ) → has_number u vs ≡ has_number u us && but v u
    left u = grind (arith, nat_tests, once.0)

-- the numbers of one list are those of two others together
pub weigh_parts : (f : ℕ → ℕ) (vs us ws : List ℕ) → AreDistinct vs → AreDistinct us → AreDistinct ws → ((v : ℕ) → has_number v us ≡ true → has_number v ws ≡ false) → ((v : ℕ) → has_number v vs ≡ has_number v us || has_number v ws) → weigh f vs ≡ weigh f us + weigh f ws
weigh_parts f vs us ws once too three apart same = weigh_same f vs (us ++ ws) once (distinct_append us ws too three apart) (λ v. same v ∙ sym (has_number-append v us ws)) ∙ weigh-append f us ws

pub rising_once : (k : ℕ) (vs : List ℕ) → RisesFrom k vs → AreDistinct vs
rising_once k [] r = record {}
rising_once k (v ∷ vs) r = (has_number_below (suc v) v vs r.1 (omega arith), rising_once (suc v) vs r.1)

-- a pass over the neighbours of each vertex and one step more depend on the vertices, and not on their order
pub same_fees : (g : GraphShape) (vs us : List ℕ) → AreDistinct vs → AreDistinct us → ((v : ℕ) → has_number v vs ≡ has_number v us) → degrees g vs + length vs ≡ degrees g us + length us
same_fees g vs us once too same = omega (
  arith,
  sym (weigh_degrees g vs) ∙ weigh_same (λ v. length (neighbours_of v g.edges)) vs us once too same ∙ weigh_degrees g us,
  sym (weigh_length vs) ∙ weigh_same (λ v. 1) vs us once too same ∙ weigh_length us,
)

-- distinct numbers below n are at most n
without : ℕ → List ℕ → List ℕ
without n xs = filter (λ v. not (eqb v n)) xs

all_kept : (n : ℕ) (xs : List ℕ) → has_number n xs ≡ false → length (without n xs) ≡ length xs
unfolding without
all_kept n [] none = refl
all_kept n (x ∷ xs) none = grind (arith, nat_tests, all_kept n xs (grind (arith, nat_tests, none)))

most_kept : (n : ℕ) (xs : List ℕ) → AreDistinct xs → length xs ≤ length (without n xs) + 1
unfolding without
most_kept n [] once = omega arith
most_kept n (x ∷ xs) once = grind (arith, nat_tests, most_kept n xs once.1, all_kept, once.0, once.1)

pub few_distinct : (n : ℕ) (xs : List ℕ) → AreDistinct xs → ((v : ℕ) → has_number v xs ≡ true → v < n) → length xs ≤ n
unfolding without
few_distinct zero [] once below = omega arith
few_distinct zero (x ∷ xs) once below = absurd (omega (arith, below x (grind (arith, nat_tests))))
few_distinct (suc n) xs once below =
    let rest = few_distinct n (filter (λ v. not (eqb v n)) xs) (distinct_filter (λ v. not (eqb v n)) xs once) (λ v there. lower v (sym (has_number-filter v (λ u. not (eqb u n)) xs) ∙ there)) in
    omega (arith, rest, most_kept n xs once)
  where
    lower : (v : ℕ) → has_number v xs && not (eqb v n) ≡ true → v < n
    lower v both = let there : has_number v xs ≡ true = grind (arith, nat_tests, both) in let h = below v there in grind (arith, nat_tests, both, h)
