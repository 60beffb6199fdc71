-- Colourings: there is at most one, it is proper, and its colours are few.
use Rattle.std.proofs.Common.{ℕ, suc, zero, ◌+◌, ◌≤◌, ◌<◌, ◌≡◌, inl, inr, true, List, [], ◌∷◌, length, get_or, sym, ◌∙◌, arith}
use Rattle.std.proofs.lemmas.Bool.{cases_lt}
use Rattle.std.proofs.lemmas.List.{get_or_past}
use Rattle.std.proofs.lemmas.Grind.{same_number_lists}
use Rattle.std.proofs.lemmas.Bool.Decides.{nat_tests}
use Rattle.kc_graph.specs.Numbers.{has_number}
use Rattle.kc_graph.specs.Shape.{GraphShape}
use Rattle.kc_graph.proofs.lemmas.Edges.{joined_comm, joined_inside}
use Rattle.kc_orient.specs.Shape.{above, orientation}
use Rattle.kc_orient.specs.Colouring.{IsLeastFree, IsColouring}
use Rattle.kc_orient.specs.Laws.{ColouringIsProper, ColoursAreFew}
use Rattle.kc_orient.proofs.Upward.{above_is, above_one_way, apart, has_number-out, outs_at, outs_sized, outs_above}
use Rattle.kc_orient.proofs.Pigeons.{pigeons}

pub colours_are_few : ColoursAreFew
colours_are_few outs c is v h = pigeons (λ w. get_or c w 0) (get_or c v 0) (get_or outs v []) (λ k lt. (is.least v h).taken k lt)

pub least_free_same : (ws c d : List ℕ) (k : ℕ) → ((w : ℕ) → has_number w ws ≡ true → get_or d w 0 ≡ get_or c w 0) → IsLeastFree ws c k → IsLeastFree ws d k
least_free_same ws c d k same is = record {
  free = λ w at e. is.free w at (sym (same w at) ∙ e);
  taken = λ j lt. let at = is.taken j lt in (at.0, at.1, same at.0 at.1 ∙ at.2);
}

-- one list of vertices with one colours has one least free
pub least_free_is_one : (ws c : List ℕ) (j k : ℕ) → IsLeastFree ws c j → IsLeastFree ws c k → j ≡ k
least_free_is_one ws c j k p q = elim (cases_lt j k) [
  | inl lt ↦ let at = q.taken j lt in absurd (p.free at.0 at.1 at.2)
  | inr ge ↦ elim (cases_lt k j) [
    | inl lt ↦ let at = p.taken k lt in absurd (q.free at.0 at.1 at.2)
    | inr le ↦ omega (arith, ge, le)
  ]
]

same_step : (outs : List (List ℕ)) (c d : List ℕ) → IsColouring outs c → IsColouring outs d → (v : ℕ) → v < length outs →
    ((w : ℕ) → has_number w (get_or outs v []) ≡ true → w < length outs → get_or c w 0 ≡ get_or d w 0) → get_or c v 0 ≡ get_or d v 0
same_step outs c d p q v h higher = least_free_is_one (get_or outs v []) d _ _ (least_free_same (get_or outs v []) c d (get_or c v 0) each (p.least v h)) (q.least v h)
  where
    each : (w : ℕ) → has_number w (get_or outs v []) ≡ true → get_or d w 0 ≡ get_or c w 0
    each w at = grind (arith, nat_tests, get_or_past, q.sized, p.sized)

-- by the level, and then by the number, the greatest first
same_at : (x : List ℕ) (outs : List (List ℕ)) (c d : List ℕ) (top : ℕ) → ((v : ℕ) → get_or x v 0 ≤ top) → ((v w : ℕ) → has_number w (get_or outs v []) ≡ true → above x v w ≡ true) → IsColouring outs c → IsColouring outs d →
    (i j v : ℕ) → v < length outs → top ≤ get_or x v 0 + i → length outs ≤ v + j → get_or c v 0 ≡ get_or d v 0
same_at x outs c d top capped up p q i zero v h a b = absurd (omega arith)
same_at x outs c d top capped up p q zero (suc j) v h a b =
    same_step outs c d p q v h (λ w at lt. elim (above_is x v w (up v w at)) [
      | inl more ↦ absurd (omega (arith, capped w, more, a))
      | inr same ↦ same_at x outs c d top capped up p q zero j w lt (omega (arith, same.0, a)) (omega (arith, same.1, b))
    ])
same_at x outs c d top capped up p q (suc i) (suc j) v h a b =
    same_step outs c d p q v h (λ w at lt. elim (above_is x v w (up v w at)) [
      | inl more ↦ same_at x outs c d top capped up p q i (length outs) w lt (omega (arith, more, a)) (omega arith)
      | inr same ↦ same_at x outs c d top capped up p q (suc i) j w lt (omega (arith, same.0, a)) (omega (arith, same.1, b))
    ])

within_both : (a m : ℕ) (xs : List ℕ) → ((v : ℕ) → get_or xs v 0 ≤ m) → (v : ℕ) → get_or (a ∷ xs) v 0 ≤ a + m
within_both a m xs each v = grind (arith, nat_tests)

pub bounded : (x : List ℕ) → (m : ℕ) × ((v : ℕ) → get_or x v 0 ≤ m)
bounded [] = (0, λ v. omega arith)
bounded (a ∷ xs) = let rest = bounded xs in (a + rest.0, within_both a rest.0 xs rest.1)

pub colourings_are_one : (g : GraphShape) (x c d : List ℕ) → IsColouring (orientation g x).outs c → IsColouring (orientation g x).outs d → c ≡ d
colourings_are_one g x c d p q =
    let outs = (orientation g x).outs in
    same_number_lists c d (p.sized ∙ sym q.sized) (λ v h. same_at x outs c d (bounded x).0 (bounded x).1 (outs_above g x) p q (bounded x).0 (length outs) v (omega (arith, h, p.sized)) (omega arith) (omega arith))

pub colouring_is_proper : ColouringIsProper
colouring_is_proper g x c graph is v w near same = grind (arith, nat_tests, joined_comm, above_one_way, apart, joined_inside, outs_at, has_number-out, outs_sized)
