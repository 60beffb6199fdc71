-- Lemmas on counts of vertices and of edges that pass a test.
use Rattle.std.proofs.Common.{ℕ, suc, zero, ◌+◌, ◌≤◌, ◌<◌, ◌≡◌, ◌≢◌, ◌⊎◌, inl, inr, Bool, true, false, cond, List, [], ◌∷◌, refl, sym, arith, subst}
use Rattle.std.specs.Prelude.{count_by}
use Rattle.std.proofs.lemmas.Bool.{cases_eq, eq-eqb, ne_eqb}
use Rattle.std.proofs.lemmas.Bool.Decides.{nat_tests}
use Rattle.kc_graph.specs.Numbers.{count_below}
use Rattle.kc_graph.specs.Shape.{Pair, EdgesFrom, neighbours_of}
use Rattle.kc_graph.proofs.lemmas.Counts.{count_by-cons, count_below_agree}

-- what passes q passes p or a
pub count_by-cover : (p a q : ℕ → Bool) (xs : List ℕ) → ((w : ℕ) → q w ≡ true → (p w ≡ true) ⊎ (a w ≡ true)) → count_by q xs ≤ count_by p xs + count_by a xs
count_by-cover p a q [] more = omega arith
count_by-cover p a q (x ∷ xs) more = grind (arith, nat_tests, count_by-cover p a q xs more, count_by-cons)

pub count_below-none : (n : ℕ) (p : ℕ → Bool) → ((w : ℕ) → w < n → p w ≡ false) → count_below n p ≡ 0
count_below-none zero p none = refl
count_below-none (suc n) p none = grind (arith, nat_tests, count_below-none n p (λ w h. none w (omega arith)))

pub count_below-pos : (n : ℕ) (p : ℕ → Bool) (v : ℕ) → v < n → p v ≡ true → 1 ≤ count_below n p
count_below-pos zero p v h e = absurd (omega arith)
count_below-pos (suc n) p v h e = elim (cases_eq v n) [
  | inl same ↦ let here : p n ≡ true = subst (λ (u : ℕ). p u ≡ true) same e in rw here (omega arith)
  | inr ne ↦ let later : 1 ≤ count_below n p = count_below-pos n p v (omega (arith, ne)) e in omega arith
]

-- a set that changes at v alone
pub count_below-moved : (n : ℕ) (p q : ℕ → Bool) (v : ℕ) → ((w : ℕ) → w ≢ v → q w ≡ p w) → v < n → count_below n q + cond (p v) 1 0 ≡ count_below n p + cond (q v) 1 0
count_below-moved zero p q v same h = absurd (omega arith)
count_below-moved (suc n) p q v same h = elim (cases_eq v n) [
  | inl e ↦ grind (arith, nat_tests, count_below_agree, e)
  | inr ne ↦
      let later : count_below n q + cond (p v) 1 0 ≡ count_below n p + cond (q v) 1 0 = count_below-moved n p q v same (omega (arith, ne)) in
      let here : q n ≡ p n = same n (λ f. ne (sym f)) in
      rw here (omega arith)
]

-- how many edges have one end in p and the other in q
abbrev pub both : Bool → Bool → ℕ
both a b = cond a (cond b 1 0) 0

abbrev pub crossing : (ℕ → Bool) → (ℕ → Bool) → List Pair → ℕ
crossing p q [] = 0
crossing p q (e ∷ es) = both (p e.0) (q e.1) + both (p e.1) (q e.0) + crossing p q es

pub crossing-none : (n a b : ℕ) (p q : ℕ → Bool) (es : List Pair) → EdgesFrom n a b es → ((w : ℕ) → w < n → p w ≡ false) → crossing p q es ≡ 0
crossing-none n a b p q [] up none = refl
crossing-none n a b p q (e ∷ es) up none = grind (arith, nat_tests, crossing-none n e.0 (suc e.1) p q es up.3 none, up.3, up.1, up.2)

-- what the count of such edges is after both sets changed at v, which was not in the first and is not in the second then
pub crossing-moved : (n a b v : ℕ) (p p' q q' : ℕ → Bool) (es : List Pair) → EdgesFrom n a b es → ((w : ℕ) → w ≢ v → p' w ≡ p w) → ((w : ℕ) → w ≢ v → q' w ≡ q w) → p v ≡ false → q' v ≡ false → crossing p' q' es + cond (q v) (count_by p (neighbours_of v es)) 0 ≡ crossing p q es + cond (p' v) (count_by q (neighbours_of v es)) 0
crossing-moved n a b v p p' q q' [] up ps qs out none = step (q v) (p' v)
  where
    step : (s t : Bool) → 0 + cond s 0 0 ≡ 0 + cond t 0 0
    step s t = grind arith
crossing-moved n a b v p p' q q' (e ∷ es) up ps qs out none =
    let later = crossing-moved n e.0 (suc e.1) v p p' q q' es up.3 ps qs out none in
    elim (cases_eq e.0 v) [
      | inl first ↦ grind (arith, nat_tests, eq-eqb, count_by-cons, at_first, up.1, first)
      | inr differs ↦ grind (arith, nat_tests, cases_eq e.1 v, ne_eqb, eq-eqb, count_by-cons, at_second)
    ]
  where
    at_first : (s t a b : Bool) (x y c d : ℕ) → y + cond s c 0 ≡ x + cond t d 0 → both t b + both a false + y + cond s (cond a 1 0 + c) 0 ≡ both false b + both a s + x + cond t (cond b 1 0 + d) 0
    at_first s t a b x y c d h = grind arith

    at_second : (s t a b : Bool) (x y c d : ℕ) → y + cond s c 0 ≡ x + cond t d 0 → both a false + both t b + y + cond s (cond a 1 0 + c) 0 ≡ both a s + both false b + x + cond t (cond b 1 0 + d) 0
    at_second s t a b x y c d h = grind arith
