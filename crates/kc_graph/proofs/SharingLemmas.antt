-- Lemmas on rows that are cut in two, and so are the half-edges that come into them or leave them.
use Rattle.std.proofs.Common.{ℕ, ◌+◌, ◌-◌, ◌≤◌, ◌<◌, ◌≡◌, inl, inr, true, false, ◌||◌, ◌&&◌, List, [], ◌∷◌, ◌++◌, length, get_or, take, drop, refl, ap, sym, ◌∙◌, arith, subst, true≢false}
use Rattle.std.proofs.lemmas.Bool.{cases_lt}
use Rattle.std.proofs.lemmas.Bool.Decides.{nat_tests}
use Rattle.std.proofs.lemmas.List.{get_or_append_left, get_or-append_right, length-append}
use Rattle.std.proofs.lemmas.List.Elements.{All-head, All-tail}
use Rattle.std.specs.Prelude.{All, not, Result, Ok, Err, OnOk}
use Rattle.std.proofs.Math.Bool.{or-false}
use Rattle.kc_graph.specs.Numbers.{RisesFrom, has_number}
use Rattle.kc_graph.specs.Shape.{Pair, has_edge}
use Rattle.kc_graph.specs.private.Halves.{IsCut, AreInside, AreGiven, AreGivenSome, AreTaken, AreChanged}
use Rattle.kc_graph.specs.declared.sharing.Change.{Change}
use Rattle.kc_graph.specs.declared.sharing.Change.TheVariants.{Give, Take}
use Rattle.kc_graph.proofs.HalfLemmas.{has_edge-append, has_place, in_parts}

none_low : (v u x : ℕ) (hs : List Pair) → All (λ h. h.0 < v) hs → v ≤ u → has_edge (u, x) hs ≡ false
none_low v u x [] all le = refl
none_low v u x (h ∷ hs) all le =
    let here : h.0 < v = All-head (λ (g : Pair). g.0 < v) h hs all in
    let later : has_edge (u, x) hs ≡ false = none_low v u x hs (All-tail (λ (g : Pair). g.0 < v) h hs all) le in
    grind (arith, nat_tests)

none_high : (v u x : ℕ) (hs : List Pair) → All (λ h. v ≤ h.0) hs → u < v → has_edge (u, x) hs ≡ false
none_high v u x [] all lt = refl
none_high v u x (h ∷ hs) all lt =
    let here : v ≤ h.0 = All-head (λ (g : Pair). v ≤ g.0) h hs all in
    let later : has_edge (u, x) hs ≡ false = none_high v u x hs (All-tail (λ (g : Pair). v ≤ g.0) h hs all) lt in
    grind (arith, nat_tests)

module _ (first v : ℕ) (low high : List Pair) (are_low : All (λ h. h.0 < v) low) (are_high : All (λ h. v ≤ h.0) high) where
  in_low : (u x : ℕ) → u < v → has_edge (u, x) (low ++ high) ≡ has_edge (u, x) low
  in_low u x lt = has_edge-append (u, x) low high ∙ ap (λ b. has_edge (u, x) low || b) (none_high v u x high are_high lt) ∙ or-false (has_edge (u, x) low)

  in_high : (u x : ℕ) → v ≤ u → has_edge (u, x) (low ++ high) ≡ has_edge (u, x) high
  in_high u x le = has_edge-append (u, x) low high ∙ ap (λ b. b || has_edge (u, x) high) (none_low v u x low are_low le)

  -- what is said of each row of both parts, and of the half-edges of its vertex, is said of each row of all
  each_row : (P : ℕ → ℕ → List Pair → List ℕ → List ℕ → Type 0) → ((u x : ℕ) (hs gs : List Pair) (old new : List ℕ) → has_edge (u, x) gs ≡ has_edge (u, x) hs → P u x hs old new → P u x gs old new) → (front back front' back' : List (List ℕ)) → first ≤ v → length front ≡ v - first → length front' ≡ length front → length back' ≡ length back → ((u x : ℕ) → u < length front → P (first + u) x low (get_or front u []) (get_or front' u [])) → ((u x : ℕ) → u < length back → P (v + u) x high (get_or back u []) (get_or back' u [])) → (u x : ℕ) → u < length (front ++ back) → P (first + u) x (low ++ high) (get_or (front ++ back) u []) (get_or (front' ++ back') u [])
  each_row P turn front back front' back' le len is1 is2 at_front at_back u x h = elim (cases_lt u (length front)) [
    | inl lt ↦ rw (get_or_append_left front back [] u lt, get_or_append_left front' back' [] u (omega (arith, is1, lt))) (turn (first + u) x low (low ++ high) (get_or front u []) (get_or front' u []) (in_low (first + u) x (omega (arith, le, len, lt))) (at_front u x lt))
    | inr ge ↦
        let place : ℕ = u - length front in
        let same : v + place ≡ first + u = omega (arith, le, len, ge) in
        let there : P (v + place) x high (get_or back place []) (get_or back' place []) = at_back place x (omega (arith, ge, rw (length-append front back) at h)) in
        rw (get_or-append_right front back (length front) u [] refl ge, get_or-append_right front' back' (length front) u [] is1 ge) (turn (first + u) x high (low ++ high) (get_or back place []) (get_or back' place []) (in_high (first + u) x (omega (arith, le, len, ge))) (rw same at there))
  ]

  module _ (front back front' back' : List (List ℕ)) (le : first ≤ v) (len : length front ≡ v - first) where
    sizes : length front' ≡ length front → length back' ≡ length back → length (front' ++ back') ≡ length (front ++ back)
    sizes is1 is2 = rw (length-append front' back', length-append front back, is1, is2) refl

    both_given : AreGiven first front front' low → AreGiven v back back' high → AreGiven first (front ++ back) (front' ++ back') (low ++ high)
    both_given s t = record {
      sized = sizes s.sized t.sized;
      rise = λ u h. each_row (λ w x hs old new. RisesFrom 0 old → RisesFrom 0 new) (λ w x hs gs old new is p. p) front back front' back' le len s.sized t.sized (λ w x lt. s.rise w lt) (λ w x lt. t.rise w lt) u 0 h;
      has = λ u x h. each_row (λ w y hs old new. has_number y new ≡ has_number y old || has_edge (w, y) hs) (λ w y hs gs old new is p. p ∙ ap (λ b. has_number y old || b) (sym is)) front back front' back' le len s.sized t.sized s.has t.has u x h;
    }

    both_given_some : AreGivenSome first front front' low → AreGivenSome v back back' high → AreGivenSome first (front ++ back) (front' ++ back') (low ++ high)
    both_given_some s t = record {
      sized = sizes s.sized t.sized;
      rise = λ u h. each_row (λ w x hs old new. RisesFrom 0 old → RisesFrom 0 new) (λ w x hs gs old new is p. p) front back front' back' le len s.sized t.sized (λ w x lt. s.rise w lt) (λ w x lt. t.rise w lt) u 0 h;
      kept = λ u x h. each_row (λ w y hs old new. has_number y old ≡ true → has_number y new ≡ true) (λ w y hs gs old new is p. p) front back front' back' le len s.sized t.sized s.kept t.kept u x h;
      only = λ u x h. each_row (λ w y hs old new. has_number y new ≡ true → has_number y old || has_edge (w, y) hs ≡ true) (λ w y hs gs old new is p there. ap (λ b. has_number y old || b) is ∙ p there) front back front' back' le len s.sized t.sized s.only t.only u x h;
    }

    both_taken : AreTaken first front front' low → AreTaken v back back' high → AreTaken first (front ++ back) (front' ++ back') (low ++ high)
    both_taken s t = record {
      sized = sizes s.sized t.sized;
      rise = λ u h. each_row (λ w x hs old new. RisesFrom 0 old → RisesFrom 0 new) (λ w x hs gs old new is p. p) front back front' back' le len s.sized t.sized (λ w x lt. s.rise w lt) (λ w x lt. t.rise w lt) u 0 h;
      has = λ u x h. each_row (λ w y hs old new. has_number y new ≡ not (has_edge (w, y) hs) && has_number y old) (λ w y hs gs old new is p. p ∙ ap (λ b. not b && has_number y old) (sym is)) front back front' back' le len s.sized t.sized s.has t.has u x h;
    }

module _ (first : ℕ) (old new : List (List ℕ)) (hs gs : List Pair) (same : (e : Pair) → has_edge e gs ≡ has_edge e hs) where
  same_given : AreGiven first old new hs → AreGiven first old new gs
  same_given s = record {
    sized = s.sized;
    rise = s.rise;
    has = λ v x h. s.has v x h ∙ ap (λ b. has_number x (get_or old v []) || b) (sym (same (first + v, x)));
  }

  same_given_some : AreGivenSome first old new hs → AreGivenSome first old new gs
  same_given_some s = record {
    sized = s.sized;
    rise = s.rise;
    kept = s.kept;
    only = λ v x h there. ap (λ b. has_number x (get_or old v []) || b) (same (first + v, x)) ∙ s.only v x h there;
  }

  same_taken : AreTaken first old new hs → AreTaken first old new gs
  same_taken s = record {
    sized = s.sized;
    rise = s.rise;
    has = λ v x h. s.has v x h ∙ ap (λ b. not b && has_number x (get_or old v [])) (sym (same (first + v, x)));
  }

-- two lists that are cut each at a vertex
pub is_cut : (gs hs : List Pair) (v k m n : ℕ) (low high : List Pair) → k < length (gs ++ hs) → v ≡ (get_or (gs ++ hs) k (0, 0)).0 → low ≡ take m gs ++ take n hs → high ≡ drop m gs ++ drop n hs → All (λ h. h.0 < v) low → All (λ h. v ≤ h.0) high → IsCut (gs ++ hs) v low high
is_cut gs hs v k m n low high at is low_is high_is below from = record {
  other = (get_or (gs ++ hs) k (0, 0)).1;
  some = subst (λ u. has_edge (u, (get_or (gs ++ hs) k (0, 0)).1) (gs ++ hs) ≡ true) (sym is) (has_place (gs ++ hs) k at);
  below = below;
  from = from;
  all = λ e. in_parts e m n gs hs ∙ ap (λ (es : List Pair). has_edge e es || has_edge e (drop m gs ++ drop n hs)) (sym low_is) ∙ ap (λ (es : List Pair). has_edge e low || has_edge e es) (sym high_is);
}

module _ (first v : ℕ) (halves low high : List Pair) (at : IsCut halves v low high) where
  whole : (e : Pair) → has_edge e halves ≡ has_edge e (low ++ high)
  whole e = at.all e ∙ sym (has_edge-append e low high)

  -- the vertex at which the halves are cut has a row
  pub cut_row : (n : ℕ) → AreInside first n halves → (first ≤ v) × (v < first + n)
  cut_row n inside = inside v at.other at.some

  pub low_inside : (n m : ℕ) → AreInside first n halves → m ≡ v - first → AreInside first m low
  low_inside n m inside is u x there = grind (arith, nat_tests, true≢false, none_low, at.below, at.all)

  pub high_inside : (n m : ℕ) → AreInside first n halves → m + (v - first) ≡ n → AreInside v m high
  high_inside n m inside is u x there = grind (arith, nat_tests, true≢false, none_high, cut_row, at.from, at.all)

  module _ (rows front back front' back' : List (List ℕ)) (split : rows ≡ front ++ back) (le : first ≤ v) (len_is : length front ≡ v - first) where
    given_in_both : AreGiven first front front' low → AreGiven v back back' high → AreGiven first rows (front' ++ back') halves
    given_in_both s t = rw split (same_given first (front ++ back) (front' ++ back') (low ++ high) halves whole (both_given first v low high at.below at.from front back front' back' le len_is s t))

    given_some_in_both : AreGivenSome first front front' low → AreGivenSome v back back' high → AreGivenSome first rows (front' ++ back') halves
    given_some_in_both s t = rw split (same_given_some first (front ++ back) (front' ++ back') (low ++ high) halves whole (both_given_some first v low high at.below at.from front back front' back' le len_is s t))

    taken_in_both : AreTaken first front front' low → AreTaken v back back' high → AreTaken first rows (front' ++ back') halves
    taken_in_both s t = rw split (same_taken first (front ++ back) (front' ++ back') (low ++ high) halves whole (both_taken first v low high at.below at.from front back front' back' le len_is s t))

-- what follows of two facts that hold where a call succeeds, holds there
pub on_ok_both : {A E : Type 0} (r : Result A E) (P Q S : Type 0) → (P → Q → S) → OnOk r P → OnOk r Q → OnOk r S
on_ok_both (Ok x) P Q S then p q = then p q
on_ok_both (Err e) P Q S then p q = tt

-- both parts of a cut are changed, and so are all rows
pub changed_in_both : {A E : Type 0} (change : Change) (r : Result A E) (first v : ℕ) (halves low high : List Pair) → IsCut halves v low high → (rows front back front' back' : List (List ℕ)) → rows ≡ front ++ back → first ≤ v → length front ≡ v - first → AreChanged change r first front front' low → AreChanged change r v back back' high → AreChanged change r first rows (front' ++ back') halves
changed_in_both Give r first v halves low high at rows front back front' back' split le len s t = (
  on_ok_both r (AreGiven first front front' low) (AreGiven v back back' high) (AreGiven first rows (front' ++ back') halves) (given_in_both first v halves low high at rows front back front' back' split le len) s.0 t.0,
  given_some_in_both first v halves low high at rows front back front' back' split le len s.1 t.1,
)
changed_in_both Take r first v halves low high at rows front back front' back' split le len s t = (s.0, taken_in_both first v halves low high at rows front back front' back' split le len s.1 t.1)
