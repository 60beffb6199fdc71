-- The vertices of the densest suffix, in ascending order.
use Rattle.std.proofs.Common.{ℕ, suc, ◌+◌, ◌≤◌, ◌<◌, ◌≡◌, ◌≢◌, List, [], ◌∷◌, length, get_or, eqb, refl, sym, ◌∙◌, arith, subst, Bool, true, false, cond, inl, inr}
use Rattle.std.specs.Prelude.{count_by}
use Rattle.std.specs.List.Sorted.{IsPermutation, IsNonDecreasing}
use Rattle.std.proofs.lemmas.Bool.{cases_eq, true≢false, eq-eqb, ne_eqb}
use Rattle.std.proofs.lemmas.List.{length-append}
use Rattle.std.proofs.lemmas.List.Sorted.{sum_by-IsPermutation}
use Rattle.std.proofs.lemmas.Bool.Decides.{nat_tests}
use Rattle.std.proofs.lemmas.Grind.{common_steps}
use Rattle.kc_graph.specs.Numbers.{has_number, RisesFrom}
use Rattle.kc_graph.specs.Shape.{GraphShape}
use Rattle.kc_graph.proofs.lemmas.Counts.{count_by-cons}
use Rattle.kc_graph.proofs.lemmas.Numbers.{has_number_at}
use Rattle.kc_dense.specs.Sets.{IsOnce}
use Rattle.kc_dense.specs.Dense.{IsPeelingList, IsDensestSuffix, IsDensePart}
use Rattle.kc_dense.proofs.SetLemmas.{has_other, count_by-none, has_number-permutation, same_length, once_from_rising}
use Rattle.kc_dense.proofs.FactorLemmas.{once_suffix}
use Rattle.kc_dense.proofs.PeelingLemmas.{peeling_length}

-- ascending numbers, each of which stands once, rise
rises_from : (low : ℕ) (xs : List ℕ) → IsNonDecreasing xs → IsOnce xs → (0 < length xs → low ≤ get_or xs 0 0) → RisesFrom low xs
rises_from low [] sorted once from = tt
rises_from low (x ∷ xs) sorted once from = grind (arith, nat_tests, rises_from (suc x) xs (λ i j d le lt. sorted (suc i) (suc j) d (omega (arith, le)) (omega (arith, lt))) once.1 (λ some. let le : x ≤ get_or xs 0 0 = sorted 0 1 0 (omega arith) (omega (arith, some)) in let ne : x ≢ get_or xs 0 0 = λ e. true≢false (sym (has_number_at x xs 0 some (sym e)) ∙ once.0) in omega (arith, le, ne)), true≢false, has_number_at, once.1, once.0)

-- how often a number stands in a list
abbrev times : ℕ → List ℕ → ℕ
times v xs = count_by (λ w. eqb w v) xs

times_once : (v : ℕ) (xs : List ℕ) → IsOnce xs → times v xs ≤ 1
times_once v [] once = omega arith
times_once v (x ∷ xs) once = grind (arith, nat_tests, common_steps, times_once v xs once.1, count_by-none, ne_eqb, true≢false, count_by-cons, eq-eqb, once.0, once.1)

times_some : (v : ℕ) (xs : List ℕ) → has_number v xs ≡ true → 1 ≤ times v xs
times_some v [] e = cc
times_some v (x ∷ xs) e = elim (cases_eq x v) [
  | inl same ↦ rw (count_by-cons (λ w. eqb w v) x xs, eq-eqb x v same) (omega arith)
  | inr ne ↦ rw (count_by-cons (λ w. eqb w v) x xs, ne_eqb x v ne) (omega (arith, times_some v xs (sym (has_other v x xs (λ f. ne (sym f))) ∙ e)))
]

once_from_times : (xs : List ℕ) → ((v : ℕ) → times v xs ≤ 1) → IsOnce xs
once_from_times [] few = tt
once_from_times (x ∷ xs) few = (absent (has_number x xs) refl, once_from_times xs (λ v. omega (arith, few v, count_by-cons (λ w. eqb w v) x xs)))
  where
    absent : (b : Bool) → has_number x xs ≡ b → b ≡ false
    absent false e = refl
    absent true e =
        let here : times x (x ∷ xs) ≡ 1 + times x xs = rw (count_by-cons (λ w. eqb w x) x xs, eq-eqb x x refl) refl in
        let most : times x (x ∷ xs) ≤ 1 = few x in
        let some : 1 ≤ times x xs = times_some x xs e in
        absurd (omega (arith, here, most, some))

-- each number stands once whatever the order
once_permutation : (xs ys : List ℕ) → IsPermutation xs ys → IsOnce xs → IsOnce ys
once_permutation xs ys moved once = once_from_times ys (λ v. omega (arith, times_once v xs once, sum_by-IsPermutation (λ w. cond (eqb w v) 1 0) xs ys moved))

-- the sorted vertices of the densest suffix are the dense part
pub members_dense : (g : GraphShape) (order part members : List ℕ) → IsPeelingList g order → IsDensestSuffix g part order → IsPermutation part members → IsNonDecreasing members → IsDensePart g members
members_dense g order part members peeling densest moved sorted =
    let once : IsOnce part = once_suffix densest.suffix.front part (subst IsOnce densest.suffix.is peeling.vertices.once) in
    record {
      order = order;
      part = part;
      peeling = peeling;
      densest = densest;
      ascending = rises_from 0 members sorted (once_permutation part members moved once) (λ some. omega arith);
      same = λ v. sym (has_number-permutation v part members moved);
    }

-- they are no more than the vertices
pub members_few : (g : GraphShape) (members : List ℕ) → IsDensePart g members → length members ≤ g.vertices
members_few g members is = grind (arith, nat_tests, once_suffix, same_length, once_from_rising, peeling_length, length-append, is.densest.suffix, is.part, is.peeling.vertices.once, is.ascending, is.same, is.order, is.peeling)
