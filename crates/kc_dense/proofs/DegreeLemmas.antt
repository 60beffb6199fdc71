-- Degrees and edges within sets of vertices.
use Rattle.std.proofs.Common.{ℕ, suc, ◌+◌, ◌*◌, ◌≤◌, ◌≡◌, ◌≢◌, inl, inr, Bool, true, false, ◌&&◌, cond, List, [], ◌∷◌, refl, ap, sym, ◌∙◌, arith}
use Rattle.std.specs.Prelude.{count_by, sum_by}
use Rattle.std.proofs.lemmas.Bool.{cases_eq, eq-eqb, ne_eqb}
use Rattle.std.proofs.lemmas.List.Sums.{sum_by-cons}
use Rattle.std.proofs.lemmas.Bool.Decides.{nat_tests}
use Rattle.kc_graph.specs.Numbers.{has_number}
use Rattle.kc_graph.specs.Shape.{GraphShape, Pair, EdgesFrom, IsGraph, neighbours_of}
use Rattle.kc_graph.proofs.lemmas.Counts.{count_by-cons}
use Rattle.kc_graph.proofs.lemmas.Neighbours.{neighbours_rise}
use Rattle.kc_dense.specs.Sets.{members_of, degree_within, edges_within, IsOnce}
use Rattle.kc_dense.proofs.SetLemmas.{has_first, has_other, once_from_rising, count_by-agree, count_by-one_more}

-- a set without one of its vertices
pub record IsWithout (v : ℕ) (s t : ℕ → Bool) : Type 0 where
  pub others : (u : ℕ) → u ≢ v → s u ≡ t u
  pub before : s v ≡ true
  pub after : t v ≡ false

pub degree_agree : (g : GraphShape) (s t : ℕ → Bool) (v : ℕ) → ((u : ℕ) → s u ≡ t u) → degree_within g s v ≡ degree_within g t v
unfolding degree_within
degree_agree g s t v same = count_by-agree s t (neighbours_of v g.edges) (λ u e. same u)

pub degree_mono : (g : GraphShape) (s t : ℕ → Bool) (v : ℕ) → ((u : ℕ) → s u ≡ true → t u ≡ true) → degree_within g s v ≤ degree_within g t v
unfolding degree_within
degree_mono g s t v more = mono (neighbours_of v g.edges)
  where
    step : (a b : Bool) → (a ≡ true → b ≡ true) → cond a 1 0 ≤ cond b 1 0
    step a b h = grind arith

    mono : (xs : List ℕ) → count_by s xs ≤ count_by t xs
    mono [] = omega arith
    mono (x ∷ xs) = omega (arith, count_by-cons s x xs, count_by-cons t x xs, step (s x) (t x) (more x), mono xs)

pub degree_without : (g : GraphShape) (s t : ℕ → Bool) (v u : ℕ) → IsGraph g → IsWithout v s t → degree_within g s u ≡ degree_within g t u + cond (has_number v (neighbours_of u g.edges)) 1 0
unfolding degree_within
degree_without g s t v u graph is =
    count_by-one_more s t v (neighbours_of u g.edges) (once_from_rising 0 (neighbours_of u g.edges) (neighbours_rise g.vertices u g.edges graph)) is.others is.before is.after

pub edges_agree : (g : GraphShape) (s t : ℕ → Bool) → ((u : ℕ) → s u ≡ t u) → edges_within g s ≡ edges_within g t
unfolding edges_within
edges_agree g s t same = grind (arith, nat_tests)

pub edges_none : (g : GraphShape) (s : ℕ → Bool) → ((u : ℕ) → s u ≡ false) → edges_within g s ≡ 0
unfolding edges_within
edges_none g s none = zero_from g.edges
  where
    zero_from : (es : List Pair) → count_by (λ (e : Pair). s e.0 && s e.1) es ≡ 0
    zero_from [] = refl
    zero_from (e ∷ es) = rw (count_by-cons (λ (f : Pair). s f.0 && s f.1) e es, none e.0, zero_from es) refl

pub edges_without : (g : GraphShape) (s t : ℕ → Bool) (v : ℕ) → IsGraph g → IsWithout v s t → edges_within g s ≡ edges_within g t + degree_within g s v
unfolding edges_within degree_within
edges_without g s t v graph is = go 0 0 g.edges graph
  where
    go : (a b : ℕ) (es : List Pair) → EdgesFrom g.vertices a b es → count_by (λ (e : Pair). s e.0 && s e.1) es ≡ count_by (λ (e : Pair). t e.0 && t e.1) es + count_by s (neighbours_of v es)
    go a b [] up = refl
    go a b (e ∷ es) up =
        let later = go e.0 (suc e.1) es up.3 in
        elim (cases_eq e.0 v) [
          | inl first ↦
              let other : e.1 ≢ v = omega (arith, up.1) in
              rw (count_by-cons (λ (f : Pair). s f.0 && s f.1) e es, count_by-cons (λ (f : Pair). t f.0 && t f.1) e es, eq-eqb e.0 v first, count_by-cons s e.1 (neighbours_of v es), ap s first, ap t first, is.before, is.after)
              (omega (arith, later))
          | inr differs ↦ elim (cases_eq e.1 v) [
            | inl second ↦
                rw (count_by-cons (λ (f : Pair). s f.0 && s f.1) e es, count_by-cons (λ (f : Pair). t f.0 && t f.1) e es, ne_eqb e.0 v differs, eq-eqb e.1 v second, count_by-cons s e.0 (neighbours_of v es), ap s second, ap t second, is.before, is.after)
                (turned (s e.0) (t e.0) _ _ _ later)
            | inr other ↦
                rw (count_by-cons (λ (f : Pair). s f.0 && s f.1) e es, count_by-cons (λ (f : Pair). t f.0 && t f.1) e es, ne_eqb e.0 v differs, ne_eqb e.1 v other, is.others e.0 differs, is.others e.1 other)
                (omega (arith, later))
          ]
        ]
      where
        turned : (p q : Bool) (x y z : ℕ) → x ≡ y + z → cond (p && true) 1 0 + x ≡ cond (q && false) 1 0 + y + (cond p 1 0 + z)
        turned p q x y z h = grind (arith, h)

-- the degrees of all vertices of a list come to twice its edges
pub handshake : (g : GraphShape) (xs : List ℕ) → IsGraph g → IsOnce xs → sum_by (degree_within g (members_of xs)) xs ≡ 2 * edges_within g (members_of xs)
unfolding edges_within degree_within
handshake g xs graph once = go 0 0 g.edges graph
  where
    -- what an edge adds to the degrees of the vertices of a list
    adds : (e : Pair) (es : List Pair) (ys : List ℕ) → e.0 ≢ e.1 → IsOnce ys →
        sum_by (λ v. count_by (members_of xs) (neighbours_of v (e ∷ es))) ys ≡ sum_by (λ v. count_by (members_of xs) (neighbours_of v es)) ys
        + (cond (has_number e.0 ys) (cond (has_number e.1 xs) 1 0) 0 + cond (has_number e.1 ys) (cond (has_number e.0 xs) 1 0) 0)
    adds e es [] apart distinct = refl
    adds e es (y ∷ ys) apart distinct =
        let later = adds e es ys apart distinct.1 in
        let wide = sum_by-cons (λ v. count_by (members_of xs) (neighbours_of v (e ∷ es))) y ys in
        let narrow = sum_by-cons (λ v. count_by (members_of xs) (neighbours_of v es)) y ys in
        elim (cases_eq e.0 y) [
          | inl first ↦
              let gone : has_number e.0 ys ≡ false = rw first distinct.0 in
              let here : count_by (members_of xs) (neighbours_of y (e ∷ es)) ≡ cond (has_number e.1 xs) 1 0 + count_by (members_of xs) (neighbours_of y es) =
              rw (eq-eqb e.0 y first) (count_by-cons (members_of xs) e.1 (neighbours_of y es)) in
              let there : has_number e.0 (y ∷ ys) ≡ true = ap (λ u. has_number u (y ∷ ys)) first ∙ has_first y ys in
              let other : has_number e.1 (y ∷ ys) ≡ has_number e.1 ys = has_other e.1 y ys (λ f. apart (first ∙ sym f)) in
              rw (wide, narrow, here, there, other) (omega (arith, rw gone at later))
          | inr differs ↦ elim (cases_eq e.1 y) [
            | inl second ↦
                let gone : has_number e.1 ys ≡ false = rw second distinct.0 in
                let here : count_by (members_of xs) (neighbours_of y (e ∷ es)) ≡ cond (has_number e.0 xs) 1 0 + count_by (members_of xs) (neighbours_of y es) =
                rw (ne_eqb e.0 y differs, eq-eqb e.1 y second) (count_by-cons (members_of xs) e.0 (neighbours_of y es)) in
                let there : has_number e.1 (y ∷ ys) ≡ true = ap (λ u. has_number u (y ∷ ys)) second ∙ has_first y ys in
                let other : has_number e.0 (y ∷ ys) ≡ has_number e.0 ys = has_other e.0 y ys differs in
                rw (wide, narrow, here, there, other) (omega (arith, rw gone at later))
            | inr apart_too ↦ grind (arith, nat_tests, ne_eqb, has_other, apart_too)
          ]
        ]

    twice : (a b : Bool) → cond a (cond b 1 0) 0 + cond b (cond a 1 0) 0 ≡ 2 * cond (a && b) 1 0
    twice a b = grind arith

    go : (a b : ℕ) (es : List Pair) → EdgesFrom g.vertices a b es → sum_by (λ v. count_by (members_of xs) (neighbours_of v es)) xs ≡ 2 * count_by (λ (e : Pair). has_number e.0 xs && has_number e.1 xs) es
    go a b [] up = zeros xs
      where
        zeros : (ys : List ℕ) → sum_by (λ v. count_by (members_of xs) (neighbours_of v [])) ys ≡ 0
        zeros [] = refl
        zeros (y ∷ ys) = rw (sum_by-cons (λ v. count_by (members_of xs) (neighbours_of v [])) y ys) (omega (arith, zeros ys))
    go a b (e ∷ es) up =
        let later = go e.0 (suc e.1) es up.3 in
        let more = adds e es xs (omega (arith, up.1)) once in
        rw (more, count_by-cons (λ (f : Pair). has_number f.0 xs && has_number f.1 xs) e es) (omega (arith, later, twice (has_number e.0 xs) (has_number e.1 xs)))
