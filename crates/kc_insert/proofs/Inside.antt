-- What holds of all that is told.
use Rattle.std.proofs.Common.{ℕ, ◌<◌, ◌≡◌, inl, inr, Bool, true, cond, List, [], ◌∷◌, ◌++◌, length, get_or, map, refl, ap, sym, ◌∙◌, arith}
use Rattle.std.specs.Prelude.{All, filter}
use Rattle.std.specs.List.{flat_map}
use Rattle.std.proofs.lemmas.Bool.{cases_Bool, true≢false}
use Rattle.std.proofs.lemmas.Bool.Decides.{nat_tests}
use Rattle.std.proofs.lemmas.Grind.{get_or_default_zero}
use Rattle.kc_graph.specs.Numbers.{has_number}
use Rattle.kc_graph.specs.Shape.{GraphShape, Pair, IsGraph, has_edge, neighbours_of}
use Rattle.kc_graph.proofs.lemmas.Numbers.{has_number_at, has_number-append}
use Rattle.kc_graph.proofs.lemmas.Neighbours.{neighbour_below}
use Rattle.kc_insert.specs.Ranges.{range_of, Tell}
use Rattle.kc_insert.proofs.Buckets.{has_number-filter}
use Rattle.kc_insert.proofs.Tests.{and_first, or_either}

pub all_of : (P : ℕ → Type 0) (xs : List ℕ) → ((v : ℕ) → has_number v xs ≡ true → P v) → All P xs
all_of P xs each k d h = rw (get_or_default_zero xs k d h) (each (get_or xs k 0) (has_number_at (get_or xs k 0) xs k h refl))

pub inside_both : (P : ℕ → Type 0) (xs ys : List ℕ) → ((v : ℕ) → has_number v xs ≡ true → P v) → ((v : ℕ) → has_number v ys ≡ true → P v) → (v : ℕ) → has_number v (xs ++ ys) ≡ true → P v
inside_both P xs ys first second v there = grind (arith, nat_tests, or_either, has_number-append)

pub inside_rows : (P : ℕ → Type 0) (f : ℕ → List ℕ) (xs : List ℕ) → ((x v : ℕ) → has_number x xs ≡ true → has_number v (f x) ≡ true → P v) → (v : ℕ) → has_number v (flat_map f xs) ≡ true → P v
inside_rows P f [] each v there = absurd (true≢false (sym there))
inside_rows P f (x ∷ xs) each v there = inside_both P (f x) (flat_map f xs) (λ u here. each x u (grind (arith, nat_tests)) here) (inside_rows P f xs (λ y u at has. each y u (grind (arith, nat_tests, at)) has)) v there

pub inside_ends : (P : ℕ → Type 0) (h : Pair → ℕ) (p : Pair → Bool) (es : List Pair) → ((v w : ℕ) → has_edge (v, w) es ≡ true → P (h (v, w))) → (u : ℕ) → has_number u (map h (filter p es)) ≡ true → P u
inside_ends P h p [] each u there = absurd (true≢false (sym there))
inside_ends P h p (e ∷ es) each u there = elim (cases_Bool (p e)) [
  | inl passes ↦ inside_both P (h e ∷ []) (map h (filter p es))
      (λ v here. same v (h e) (each e.0 e.1 (grind (arith, nat_tests))) here)
      (inside_ends P h p es (λ v w at. each v w (grind (arith, nat_tests, at))))
      u (ap (λ b. has_number u (map h (cond b (e ∷ filter p es) (filter p es)))) (sym passes) ∙ there)
  | inr fails ↦ inside_ends P h p es (λ v w at. each v w (grind (arith, nat_tests, at))) u (ap (λ b. has_number u (map h (cond b (e ∷ filter p es) (filter p es)))) (sym fails) ∙ there)
]
  where
    same : (v w : ℕ) → P w → has_number v (w ∷ []) ≡ true → P v
    same v w known here = let e : w ≡ v = grind (arith, nat_tests, here) in rw (← e) known

-- a neighbour that passes a test is a vertex
pub near_inside : (g : GraphShape) (v u : ℕ) (p : ℕ → Bool) → IsGraph g → has_number u (filter p (neighbours_of v g.edges)) ≡ true → u < g.vertices
near_inside g v u p graph there = neighbour_below g.vertices v u g.edges graph (and_first (has_number u (neighbours_of v g.edges)) (p u) (sym (has_number-filter u p (neighbours_of v g.edges)) ∙ there))

-- a list of vertices can be dealt to the ranges
pub dealt_all : (width n : ℕ) (lists : List (List ℕ)) (y : Tell) (told : List ℕ) → y ≡ record { all = told; lists = lists } → ((v : ℕ) → has_number v told ≡ true → v < n) → ((v : ℕ) → v < n → range_of width v < length lists) → All (λ v. range_of width v < length y.lists) y.all
dealt_all width n lists y told is inside ranges = rw is (all_of (λ v. range_of width v < length lists) told (λ v there. ranges v (inside v there)))
