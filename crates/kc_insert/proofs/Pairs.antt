-- What meetings tell adds up: how often a vertex is told, as a count over its neighbours.
use Rattle.std.proofs.Common.{ℕ, suc, zero-add, ◌+◌, ◌≡◌, ◌≢◌, Bool, true, false, cond, eqb, ◌&&◌, List, [], ◌∷◌, map, refl, ap, sym, ◌∙◌, arith}
use Rattle.std.specs.Prelude.{count_by, filter}
use Rattle.std.proofs.lemmas.Bool.{and_from, and_right, cases_Bool, cases_eq, eq-eqb, ne_eqb}
use Rattle.std.proofs.lemmas.Bool.Decides.{nat_tests}
use Rattle.kc_graph.specs.Numbers.{has_number, RisesFrom}
use Rattle.kc_graph.specs.Shape.{Pair, has_edge}
use Rattle.kc_graph.proofs.lemmas.Counts.{count_by-cons}
use Rattle.kc_insert.specs.private.Meetings.{AreApart}
use Rattle.kc_insert.specs.private.Telling.{times}
use Rattle.kc_insert.proofs.Tests.{count_agree, count_less}

count_nothing : (p : ℕ → Bool) (xs : List ℕ) → ((x : ℕ) → p x ≡ false) → count_by p xs ≡ 0
count_nothing p [] none = refl
count_nothing p (x ∷ xs) none = omega (arith, count_by-cons p x xs, ap {B = ℕ} (λ b. cond b 1 0) (none x), count_nothing p xs none)

-- the pairs whose first vertex is v, where the second passes: `near` has all their second vertices
module _ (p : ℕ → Bool) (q : ℕ → Bool) (v low : ℕ) (near : List ℕ) (up : RisesFrom low near) (passes : p v ≡ true) where
  abbrev seen_of : List Pair → ℕ → Bool
  seen_of es u = has_edge (v, u) es && q u

  abbrev firsts : List Pair → List ℕ
  firsts es = map (λ (e : Pair). e.0) (filter (λ (e : Pair). p e.0 && q e.1) es)

  other_pair : (e : Pair) (es : List Pair) (u : ℕ) → (e.0 ≢ v) → seen_of (e ∷ es) u ≡ seen_of es u
  other_pair e es u ne = grind (arith, nat_tests, ne)

  other_end : (e : Pair) (es : List Pair) (u : ℕ) → (u ≢ e.1) → seen_of (e ∷ es) u ≡ seen_of es u
  other_end e es u ne = grind (arith, nat_tests, ne)

  fails_end : (e : Pair) (es : List Pair) (u : ℕ) → q e.1 ≡ false → seen_of (e ∷ es) u ≡ seen_of es u
  fails_end e es u no_ = grind (arith, nat_tests, and_right, other_end)

  pub times_firsts : (es : List Pair) → AreApart es → ((u : ℕ) → has_edge (v, u) es ≡ true → has_number u near ≡ true) → times v (firsts es) ≡ count_by (seen_of es) near
  times_firsts [] apart listed = sym (count_nothing (seen_of []) near (λ u. refl))
  times_firsts (e ∷ es) apart listed = let later : times v (firsts es) ≡ count_by (seen_of es) near = times_firsts es apart.1 (λ u there. listed u (grind (arith, nat_tests, there))) in grind (arith, nat_tests, cases_eq e.0 v, skip, count_agree, other_pair, dropped, fails_end, taken, more, count_less, here, and_from, gone, other_end)
    where
      here : e.0 ≡ v → has_edge (v, e.1) (e ∷ es) ≡ true
      here is = grind (arith, nat_tests, is)

      gone : e.0 ≡ v → seen_of es e.1 ≡ false
      gone is = ap (λ k. has_edge (k, e.1) es && q e.1) (sym is) ∙ ap (λ b. b && q e.1) apart.0

      more : {a b : ℕ} → a ≡ b + 1 → suc b ≡ a
      more {a} {b} is = omega (arith, is)

      dropped : q e.1 ≡ false → times v (firsts (e ∷ es)) ≡ times v (firsts es)
      dropped no_ = ap (λ b. times v (map (λ (f : Pair). f.0) (cond b (e ∷ filter (λ (f : Pair). p f.0 && q f.1) es) (filter (λ (f : Pair). p f.0 && q f.1) es)))) (and_right (p e.0) (q e.1) no_)

      skip : e.0 ≢ v → times v (firsts (e ∷ es)) ≡ times v (firsts es)
      skip ne = grind (arith, nat_tests, ne_eqb, zero-add)

      taken : e.0 ≡ v → q e.1 ≡ true → times v (firsts (e ∷ es)) ≡ suc (times v (firsts es))
      taken is yes_ = grind (arith, nat_tests, and_from, eq-eqb)

-- the pairs whose second vertex is w, where the first passes: `near` has all their first vertices
module _ (p : ℕ → Bool) (w low : ℕ) (near : List ℕ) (up : RisesFrom low near) where
  abbrev seen_by : List Pair → ℕ → Bool
  seen_by es u = has_edge (u, w) es && p u

  abbrev seconds : List Pair → List ℕ
  seconds es = map (λ (e : Pair). e.1) (filter (λ (e : Pair). p e.0) es)

  strange_pair : (e : Pair) (es : List Pair) (u : ℕ) → (e.1 ≢ w) → seen_by (e ∷ es) u ≡ seen_by es u
  strange_pair e es u ne = grind (arith, nat_tests, ne)

  strange_end : (e : Pair) (es : List Pair) (u : ℕ) → (u ≢ e.0) → seen_by (e ∷ es) u ≡ seen_by es u
  strange_end e es u ne = grind (arith, nat_tests, ne)

  lost_end : (e : Pair) (es : List Pair) (u : ℕ) → p e.0 ≡ false → seen_by (e ∷ es) u ≡ seen_by es u
  lost_end e es u no_ = grind (arith, nat_tests, and_right, strange_end)

  pub times_seconds : (es : List Pair) → AreApart es → ((u : ℕ) → has_edge (u, w) es ≡ true → has_number u near ≡ true) → times w (seconds es) ≡ count_by (seen_by es) near
  times_seconds [] apart listed = sym (count_nothing (seen_by []) near (λ u. refl))
  times_seconds (e ∷ es) apart listed = let later : times w (seconds es) ≡ count_by (seen_by es) near = times_seconds es apart.1 (λ u there. listed u (grind (arith, nat_tests, there))) in grind (arith, nat_tests, cases_Bool (p e.0), dropped, count_agree, lost_end, kept, ne_eqb, zero-add, strange_pair, eq-eqb, plus, count_less, here, and_from, gone)
    where
      here : e.1 ≡ w → has_edge (e.0, w) (e ∷ es) ≡ true
      here is = grind (arith, nat_tests, is)

      gone : e.1 ≡ w → seen_by es e.0 ≡ false
      gone is = ap (λ k. has_edge (e.0, k) es && p e.0) (sym is) ∙ ap (λ b. b && p e.0) apart.0

      plus : {a b : ℕ} → a ≡ b → 1 + a ≡ b + 1
      plus {a} {b} is = omega (arith, is)

      dropped : p e.0 ≡ false → times w (seconds (e ∷ es)) ≡ times w (seconds es)
      dropped no_ = ap (λ b. times w (map (λ (f : Pair). f.1) (cond b (e ∷ filter (λ (f : Pair). p f.0) es) (filter (λ (f : Pair). p f.0) es)))) no_

      kept : p e.0 ≡ true → times w (seconds (e ∷ es)) ≡ cond (eqb e.1 w) 1 0 + times w (seconds es)
      kept yes_ = ap (λ b. times w (map (λ (f : Pair). f.1) (cond b (e ∷ filter (λ (f : Pair). p f.0) es) (filter (λ (f : Pair). p f.0) es)))) yes_
