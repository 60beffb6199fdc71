-- A well-formed plan has at most as many groups, and each group at most as many moves, as there are vertices.
use Rattle.std.proofs.Common.{ℕ, ◌≤◌, ◌<◌, ◌≡◌, ◌≢◌, Bool, true, false, ◌||◌, List, [], ◌∷◌, length, get_or, All, suc, zero, refl, sym, ap, ◌∙◌, subst, arith, eqb, ne_eqb}
use Rattle.std.specs.List.{IsDistinct, AllByRecursion, list_any}
use Rattle.std.proofs.lemmas.Bool.Decides.{nat_tests}
use Rattle.std.proofs.lemmas.Map.Steps.{length-le_from_distinct_below}
use Rattle.std.proofs.lemmas.List.{get_or-map, length-map}
use Rattle.std.proofs.lemmas.Grind.{common_steps}
use Rattle.kc_graph.proofs.lemmas.Numbers.{length-rising}
use Rattle.kc_levels.specs.declared.moves.Move.{Move}
use Rattle.kc_history.specs.declared.entries.Entry.{Entry}
use Rattle.kc_groups.specs.declared.plans.PhasePlan.{PhasePlan}
use Rattle.kc_groups.specs.WellFormed.{vertices_of, IsWellFormed}
use Rattle.kc_groups.specs.Sizes.{PlansAreSmall}

other_than : (x : ℕ) (xs : List ℕ) → ((j : ℕ) → j < length xs → x ≢ get_or xs j 0) → AllByRecursion (λ y. eqb x y ≡ false) xs
other_than x [] h = tt
other_than x (y ∷ ys) h = (ne_eqb x y (h 0 (omega arith)), other_than x ys (λ j lt. h (suc j) (omega (arith, lt))))

distinct_from : (xs : List ℕ) → ((i j : ℕ) → i < length xs → j < length xs → get_or xs i 0 ≡ get_or xs j 0 → i ≡ j) → IsDistinct eqb xs
unfolding IsDistinct
distinct_from [] h = tt
distinct_from (x ∷ xs) h = (
  other_than x xs (λ j lt same. let e = h 0 (suc j) (omega arith) (omega (arith, lt)) same in omega (arith, e)),
  distinct_from xs (λ i j a b same. let e = h (suc i) (suc j) (omega (arith, a)) (omega (arith, b)) same in omega (arith, e)),
)

below_from : (n q : ℕ) (xs : List ℕ) → ((i : ℕ) → i < length xs → get_or xs i 0 < n) → list_any (eqb q) xs ≡ true → q < n
below_from n q [] h on = cc
below_from n q (x ∷ xs) h on = go (eqb q x) refl (below_from n q xs (λ i lt. h (suc i) (omega (arith, lt))))
  where
    go : (b : Bool) → eqb q x ≡ b → (list_any (eqb q) xs ≡ true → q < n) → q < n
    go true t rest = let e : q ≡ x = grind (arith, nat_tests, t) in let lt = h 0 (omega arith) in omega (arith, e, lt)
    go false t rest = rest (ap (λ b. b || list_any (eqb q) xs) (sym t) ∙ on)

few_groups : (n : ℕ) (plan : PhasePlan) → IsWellFormed n plan → length plan.groups ≤ n
few_groups n plan w = grind (arith, nat_tests, common_steps, length-rising, length-map, w.labels, w.labels_rise, w.labels_below, w.labels_are)

few_moves : (n : ℕ) (plan : PhasePlan) → IsWellFormed n plan → All (λ (e : Entry). length e.moves ≤ n) plan.groups
few_moves n plan w k d inside =
    let e : Entry = get_or plan.groups k d in
    let same : get_or plan.groups k plan.quiet ≡ e = any plan.groups k plan.quiet d inside in
    let vs = vertices_of e in
    let size = length-map e.moves (λ (m : Move). m.vertex) in
    let most : length vs ≤ n = length-le_from_distinct_below vs n
    (distinct_from vs (λ i j a b s. (w.once k k i j inside inside
    (subst (λ (z : Entry). i < length (vertices_of z)) (sym same) a) (subst (λ (z : Entry). j < length (vertices_of z)) (sym same) b)
    (ap (λ (z : Entry). get_or (vertices_of z) i 0) same ∙ (s ∙ ap (λ (z : Entry). get_or (vertices_of z) j 0) (sym same)))).1))
    (λ q on. below_from n q vs (λ i lt.
    let few : i < length e.moves = omega (arith, lt, size) in
    let m : Move = record { vertex = 0; old = 0; new = 0 } in
    let good = (w.groups k d inside).moves i m few in
    subst (λ z. z < n) (sym (get_or-map (λ (m : Move). m.vertex) e.moves i m 0 few)) good.vertex) on) in
    omega (arith, most, size)
  where
    any : (es : List Entry) (i : ℕ) (a b : Entry) → i < length es → get_or es i a ≡ get_or es i b
    any [] i a b lt = absurd (omega (arith, lt))
    any (x ∷ xs) Rattle.std.proofs.Common.zero a b lt = refl
    any (x ∷ xs) (Rattle.std.proofs.Common.suc i) a b lt = any xs i a b (omega (arith, lt))

pub plans_are_small : PlansAreSmall
plans_are_small = record { groups = few_groups; moves = few_moves }
