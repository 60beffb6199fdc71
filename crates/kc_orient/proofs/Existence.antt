-- Each orientation has a colouring.
use Rattle.std.proofs.Common.{ℕ, suc, zero, ◌+◌, ◌≤◌, ◌<◌, ◌≡◌, inl, inr, true, false, eqb, List, [], ◌∷◌, length, get_or, map, refl, ap, sym, ◌∙◌, arith}
use Rattle.std.specs.Prelude.{not}
use Rattle.std.specs.List.{range_with_len}
use Rattle.std.proofs.lemmas.Bool.{cases_eq, cases_Bool, true≢false, eq-eqb, not-true, or_right}
use Rattle.std.proofs.lemmas.Bool.Decides.{nat_tests}
use Rattle.std.proofs.lemmas.List.FromFn.{get_or-map-range_with_len, length-map-range_with_len}
use Rattle.kc_graph.specs.Numbers.{has_number}
use Rattle.kc_levels.specs.Thresholds.{least}
use Rattle.kc_levels.proofs.lemmas.Least.{least-le, least-passes}
use Rattle.kc_orient.specs.Shape.{orientation}
use Rattle.kc_orient.specs.Colouring.{IsColouring}
use Rattle.kc_orient.specs.Laws.{ColouringIsOne}
use Rattle.kc_orient.proofs.Upward.{above_is, LeadUpward, leads_upward}
use Rattle.kc_orient.proofs.Colourings.{bounded, colourings_are_one}

-- the least number that is not in a list

total : List ℕ → ℕ
total [] = 0
total (k ∷ ks) = k + total ks

member-le : (k : ℕ) (ks : List ℕ) → has_number k ks ≡ true → k ≤ total ks
unfolding total
member-le k [] at = absurd (true≢false (sym at))
member-le k (j ∷ ks) at = elim (cases_eq j k) [
  | inl same ↦ omega (arith, same)
  | inr ne ↦ omega (arith, member-le k ks (grind (arith, nat_tests, at, ne)))
]

least_not : List ℕ → ℕ
least_not ks = least (λ k. not (has_number k ks)) (suc (suc (total ks)))

not_in : (k : ℕ) (ks : List ℕ) → total ks < k → has_number k ks ≡ false
not_in k ks lt = elim (cases_Bool (has_number k ks)) [ inl at ↦ absurd (omega (arith, member-le k ks at)) | inr out ↦ out ]

least_not-out : (ks : List ℕ) → has_number (least_not ks) ks ≡ false
unfolding least_not
least_not-out ks = grind (arith, nat_tests, total, not_in, least-le, not-true, least-passes)

least_not-least : (ks : List ℕ) (j : ℕ) → j < least_not ks → has_number j ks ≡ true
unfolding least_not
least_not-least ks j lt = elim (cases_Bool (has_number j ks)) [
  | inl at ↦ at
  | inr out ↦ absurd (omega (arith, lt, least-le (λ k. not (has_number k ks)) (suc (suc (total ks))) j (ap not out)))
]

-- images

has_number-map : (f : ℕ → ℕ) (w : ℕ) (ws : List ℕ) → has_number w ws ≡ true → has_number (f w) (map f ws) ≡ true
has_number-map f w [] at = absurd (true≢false (sym at))
has_number-map f w (u ∷ ws) at = elim (cases_eq u w) [
  | inl same ↦ rw (eq-eqb (f u) (f w) (ap f same)) refl
  | inr ne ↦ let later = has_number-map f w ws (grind (arith, nat_tests, at, ne)) in or_right (eqb (f u) (f w)) _ later
]

from_map : (f : ℕ → ℕ) (j : ℕ) (ws : List ℕ) → has_number j (map f ws) ≡ true → (w : ℕ) × (has_number w ws ≡ true) × (f w ≡ j)
from_map f j [] at = absurd (true≢false (sym at))
from_map f j (u ∷ ws) at = elim (cases_eq (f u) j) [
  | inl same ↦ (u, rw (eq-eqb u u refl) refl, same)
  | inr ne ↦ let rest = from_map f j ws (grind (arith, nat_tests, at, ne)) in (rest.0, or_right (eqb u rest.0) _ rest.1, rest.2)
]

map_same : (f h : ℕ → ℕ) (ws : List ℕ) → ((w : ℕ) → has_number w ws ≡ true → f w ≡ h w) → map f ws ≡ map h ws
map_same f h [] each = refl
map_same f h (w ∷ ws) each = grind (arith, nat_tests, map_same f h ws (λ u at. each u (or_right (eqb w u) _ at)), eq-eqb, or_right)

colour_by : List (List ℕ) → ℕ → ℕ → ℕ
colour_by outs zero v = 0
colour_by outs (suc f) v = least_not (map (colour_by outs f) (get_or outs v []))

enough : ℕ → ℕ → ℕ → ℕ
enough m i zero = 0
enough m zero (suc j) = suc (enough m zero j)
enough m (suc i) (suc j) = suc (enough m i m + enough m (suc i) j)

settled : (x : List ℕ) (outs : List (List ℕ)) (top : ℕ) → ((v : ℕ) → get_or x v 0 ≤ top) → LeadUpward x outs → (i j v f h : ℕ) → v < length outs → top ≤ get_or x v 0 + i → length outs ≤ v + j → enough (length outs) i j ≤ f → enough (length outs) i j ≤ h → colour_by outs f v ≡ colour_by outs h v
unfolding colour_by enough
settled x outs top capped up i zero v f h below a b p q = absurd (omega arith)
settled x outs top capped up zero (suc j) v zero h below a b p q = absurd (omega arith)
settled x outs top capped up zero (suc j) v (suc f) zero below a b p q = absurd (omega arith)
settled x outs top capped up zero (suc j) v (suc f) (suc h) below a b p q =
    ap least_not (map_same (colour_by outs f) (colour_by outs h) (get_or outs v []) (λ w at. elim (above_is x v w (up.upward v w at)) [
      | inl more ↦ absurd (omega (arith, capped w, more, a))
      | inr same ↦ settled x outs top capped up zero j w f h (up.inside v w at) (omega (arith, same.0, a)) (omega (arith, same.1, b)) (omega (arith, p)) (omega (arith, q))
    ]))
settled x outs top capped up (suc i) (suc j) v zero h below a b p q = absurd (omega arith)
settled x outs top capped up (suc i) (suc j) v (suc f) zero below a b p q = absurd (omega arith)
settled x outs top capped up (suc i) (suc j) v (suc f) (suc h) below a b p q =
    ap least_not (map_same (colour_by outs f) (colour_by outs h) (get_or outs v []) (λ w at. elim (above_is x v w (up.upward v w at)) [
      | inl more ↦ settled x outs top capped up i (length outs) w f h (up.inside v w at) (omega (arith, more, a)) (omega arith) (omega (arith, p)) (omega (arith, q))
      | inr same ↦ settled x outs top capped up (suc i) j w f h (up.inside v w at) (omega (arith, same.0, a)) (omega (arith, same.1, b)) (omega (arith, p)) (omega (arith, q))
    ]))

has_colouring : (x : List ℕ) (outs : List (List ℕ)) → LeadUpward x outs → (c : List ℕ) × IsColouring outs c
unfolding colour_by
has_colouring x outs up = (
  map (colour_by outs steps) (range_with_len 0 (length outs)),
  record {
    sized = length-map-range_with_len (colour_by outs steps) 0 (length outs);
    least = λ v h. record {
      free = λ w near e. true≢false (sym (has_number-map (colour_by outs steps) w (get_or outs v []) near) ∙ ap (λ (k : ℕ). has_number k (map (colour_by outs steps) (get_or outs v []))) (sym (at w (up.inside v w near)) ∙ e ∙ at v h ∙ last v h) ∙ least_not-out (map (colour_by outs steps) (get_or outs v [])));
      taken = λ j lt.
          let hit = from_map (colour_by outs steps) j (get_or outs v []) (least_not-least (map (colour_by outs steps) (get_or outs v [])) j (omega (arith, lt, at v h, last v h))) in
          (hit.0, hit.1, at hit.0 (up.inside v hit.0 hit.1) ∙ hit.2);
    };
  },
)
  where
    steps : ℕ
    steps = enough (length outs) (bounded x).0 (length outs)

    at : (v : ℕ) → v < length outs → get_or (map (colour_by outs (enough (length outs) (bounded x).0 (length outs))) (range_with_len 0 (length outs))) v 0 ≡ colour_by outs (enough (length outs) (bounded x).0 (length outs)) v
    at v h = get_or-map-range_with_len (colour_by outs (enough (length outs) (bounded x).0 (length outs))) 0 (length outs) v v 0 h (omega arith)

    last : (v : ℕ) → v < length outs → colour_by outs (enough (length outs) (bounded x).0 (length outs)) v ≡ least_not (map (colour_by outs (enough (length outs) (bounded x).0 (length outs))) (get_or outs v []))
    last v h = settled x outs (bounded x).0 (bounded x).1 up (bounded x).0 (length outs) v (enough (length outs) (bounded x).0 (length outs)) (suc (enough (length outs) (bounded x).0 (length outs))) h (omega arith) (omega arith) (omega arith) (omega arith)

pub colouring_is_one : ColouringIsOne
colouring_is_one = record {
  some = λ g x graph. has_colouring x (orientation g x).outs (leads_upward g x graph);
  one = colourings_are_one;
}
