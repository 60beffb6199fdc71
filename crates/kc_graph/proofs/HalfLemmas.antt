-- Lemmas on half-edges that come into rows, or leave them.
use Rattle.std.proofs.Common.{ℕ, suc, zero, ◌+◌, ◌-◌, ◌≤◌, ◌<◌, ◌≡◌, ◌≢◌, inl, inr, ◌⊎◌, Bool, true, false, ◌||◌, ◌&&◌, List, [], ◌∷◌, ◌++◌, length, get_or, set, take, drop, refl, ap, sym, ◌∙◌, arith, subst}
use Rattle.std.proofs.lemmas.Bool.{cases_eq}
use Rattle.std.proofs.lemmas.Bool.Decides.{nat_tests}
use Rattle.std.proofs.lemmas.List.{length-set, get_or-set_same, get_or-set_other, take_more, length-append, length-drop, length-take-le, get_or-take, get_or_append_left, get_or-append_right, take-append-drop}
use Rattle.std.proofs.lemmas.List.Sorted.{list_any-IsPermutation}
use Rattle.std.specs.List.{list_any}
use Rattle.std.specs.List.Sorted.{IsPermutation}
use Rattle.std.specs.Prelude.{filter, not, Result, Ok, Err, OnOk}
use Rattle.std.proofs.Math.Bool.{or-false, or-true}
use Rattle.kc_graph.specs.Numbers.{RisesFrom, has_number}
use Rattle.kc_graph.specs.Shape.{Pair, same_edge, has_edge, joined}
use Rattle.kc_graph.specs.private.Numbers.{put, without}
use Rattle.kc_graph.specs.private.Halves.{has_second, SecondsRise, AreOf, AreInside, IsFirst, IsRun}
use Rattle.kc_graph.proofs.NumberLemmas.{has_number-put}

pub has_edge-append : (e : Pair) (es fs : List Pair) → has_edge e (es ++ fs) ≡ has_edge e es || has_edge e fs
has_edge-append e [] fs = refl
has_edge-append e (d ∷ ds) fs = grind (arith, nat_tests, has_edge-append e ds fs)

has_edge-push : (e f : Pair) (es : List Pair) → has_edge e (es ++ f ∷ []) ≡ has_edge e es || same_edge e f
has_edge-push e f es = has_edge-append e es (f ∷ []) ∙ ap (λ b. has_edge e es || b) (or-false (same_edge e f))

pub has_edge_any : (e : Pair) (es : List Pair) → has_edge e es ≡ list_any (same_edge e) es
has_edge_any e [] = refl
has_edge_any e (f ∷ fs) = ap (λ b. same_edge e f || b) (has_edge_any e fs)

pub has_edge-permutation : (e : Pair) (es fs : List Pair) → IsPermutation es fs → has_edge e fs ≡ has_edge e es
has_edge-permutation e es fs same = has_edge_any e fs ∙ sym (list_any-IsPermutation (same_edge e) es fs same) ∙ sym (has_edge_any e es)

-- the half at the greater end of one more edge
pub turned_next : (es hs : List Pair) (i v w : ℕ) (e : Pair) → i < length es → e ≡ get_or es i (0, 0) → has_edge (v, w) hs ≡ has_edge (w, v) (take i es) → has_edge (v, w) (hs ++ (e.1, e.0) ∷ []) ≡ has_edge (w, v) (take (i + 1) es)
turned_next es hs i v w e h is before =
    has_edge-push (v, w) (e.1, e.0) hs
    ∙ ap (λ b. b || same_edge (v, w) (e.1, e.0)) before
    ∙ ap (λ b. has_edge (w, v) (take i es) || b) turned
    ∙ sym (rw (take_more es i (0, 0) h, ← is, has_edge-push (w, v) e (take i es)) refl)
  where
    turned : same_edge (v, w) (e.1, e.0) ≡ same_edge (w, v) e
    turned = grind (arith, nat_tests)

-- the halves at both ends of edges
pub both_ends : (greater es : List Pair) (v w : ℕ) → has_edge (v, w) greater ≡ has_edge (w, v) es → has_edge (v, w) (greater ++ es) ≡ joined v w es
both_ends greater es v w turned = grind (arith, nat_tests, has_edge-append)

-- two lists that are cut in two each
pub in_parts : (e : Pair) (m k : ℕ) (gs hs : List Pair) → has_edge e (gs ++ hs) ≡ has_edge e (take m gs ++ take k hs) || has_edge e (drop m gs ++ drop k hs)
in_parts e m k gs hs =
    ap (λ (es : List Pair). has_edge e (es ++ hs)) (sym (take-append-drop m gs))
    ∙ ap (λ (es : List Pair). has_edge e ((take m gs ++ drop m gs) ++ es)) (sym (take-append-drop k hs))
    ∙ has_edge-append e (take m gs ++ drop m gs) (take k hs ++ drop k hs)
    ∙ ap (λ b. b || has_edge e (take k hs ++ drop k hs)) (has_edge-append e (take m gs) (drop m gs))
    ∙ ap (λ b. (has_edge e (take m gs) || has_edge e (drop m gs)) || b) (has_edge-append e (take k hs) (drop k hs))
    ∙ regroup (has_edge e (take m gs)) (has_edge e (drop m gs)) (has_edge e (take k hs)) (has_edge e (drop k hs))
    ∙ ap (λ b. b || (has_edge e (drop m gs) || has_edge e (drop k hs))) (sym (has_edge-append e (take m gs) (take k hs)))
    ∙ ap (λ b. has_edge e (take m gs ++ take k hs) || b) (sym (has_edge-append e (drop m gs) (drop k hs)))
  where
    regroup : (a b c d : Bool) → ((a || b) || (c || d)) ≡ ((a || c) || (b || d))
    regroup true b c d = refl
    regroup false true true d = refl
    regroup false true false d = refl
    regroup false false c d = refl

pub has_place : (hs : List Pair) (k : ℕ) → k < length hs → has_edge (get_or hs k (0, 0)) hs ≡ true
has_place [] k lt = absurd (omega (arith, lt))
has_place (h ∷ hs) zero lt = grind (arith, nat_tests)
has_place (h ∷ hs) (suc k) lt = rw (has_place hs k (omega (arith, lt))) (or-true (same_edge (get_or hs k (0, 0)) h))

-- halves of one vertex

of_later : (v : ℕ) (h : Pair) (hs : List Pair) → AreOf v (h ∷ hs) → AreOf v hs
of_later v h hs all k lt = all (suc k) (omega arith)

pub of_same : (v x : ℕ) (hs : List Pair) → AreOf v hs → has_edge (v, x) hs ≡ has_second x hs
of_same v x [] all = refl
of_same v x (h ∷ hs) all =
    let here : h.0 ≡ v = all 0 (omega arith) in
    let later : has_edge (v, x) hs ≡ has_second x hs = of_same v x hs (of_later v h hs all) in
    grind (arith, nat_tests)

pub of_other : (v u x : ℕ) (hs : List Pair) → AreOf v hs → u ≢ v → has_edge (u, x) hs ≡ false
of_other v u x [] all ne = refl
of_other v u x (h ∷ hs) all ne =
    let here : h.0 ≡ v = all 0 (omega arith) in
    let later : has_edge (u, x) hs ≡ false = of_other v u x hs (of_later v h hs all) ne in
    grind (arith, nat_tests)

-- the first halves of a vertex in two lists
module _ (gs hs : List Pair) (v m k : ℕ) (le : m ≤ length gs) (le' : k ≤ length hs) where
  length_run : length (take m gs ++ take k hs) ≡ m + k
  length_run = length-append (take m gs) (take k hs) ∙ rw (length-take-le m gs le, length-take-le k hs le') refl

  at_front : (i : ℕ) → i < m → get_or (take m gs ++ take k hs) i (0, 0) ≡ get_or gs i (0, 0)
  at_front i lt = get_or_append_left (take m gs) (take k hs) (0, 0) i (rw (length-take-le m gs le) lt) ∙ get_or-take m gs i (0, 0) lt

  at_back : (i : ℕ) → m ≤ i → i < m + k → get_or (take m gs ++ take k hs) i (0, 0) ≡ get_or hs (i - m) (0, 0)
  at_back i ge lt = get_or-append_right (take m gs) (take k hs) m i (0, 0) (length-take-le m gs le) ge ∙ get_or-take k hs (i - m) (0, 0) (omega arith)

  module _ (of : (i : ℕ) → i < m → (get_or gs i (0, 0)).0 ≡ v) (of' : (i : ℕ) → i < k → (get_or hs i (0, 0)).0 ≡ v) where
    of_run : AreOf v (take m gs ++ take k hs)
    of_run i lt = grind (arith, nat_tests, at_front, at_back, length_run)

  module _ (up : (i : ℕ) → i + 1 < m → (get_or gs i (0, 0)).1 < (get_or gs (i + 1) (0, 0)).1) (up' : (i : ℕ) → i + 1 < k → (get_or hs i (0, 0)).1 < (get_or hs (i + 1) (0, 0)).1) (low : (i : ℕ) → i < m → (get_or gs i (0, 0)).1 < v) (high : (i : ℕ) → i < k → v < (get_or hs i (0, 0)).1) where
    run_rises : SecondsRise (take m gs ++ take k hs)
    run_rises i lt = grind (arith, nat_tests, at_front, length_run, at_back)

  fewer_left : (0 < m) ⊎ (0 < k) → length (drop m gs ++ drop k hs) < length (gs ++ hs)
  fewer_left some = grind (arith, nat_tests, length-append, length-drop)

first_has : (v : ℕ) (hs : List Pair) → 0 < length hs → (get_or hs 0 (0, 0)).0 ≡ v → has_edge (v, (get_or hs 0 (0, 0)).1) hs ≡ true
first_has v hs some is = subst (λ u. has_edge (u, (get_or hs 0 (0, 0)).1) hs ≡ true) is (has_place hs 0 some)

pub is_run : (gs hs : List Pair) (v m k : ℕ) → IsFirst v gs hs → m ≤ length gs → k ≤ length hs → (0 < length gs → (get_or gs 0 (0, 0)).0 ≡ v → 0 < m) → (0 < length hs → (get_or hs 0 (0, 0)).0 ≡ v → 0 < k) → ((i : ℕ) → i < m → (get_or gs i (0, 0)).0 ≡ v) → ((i : ℕ) → i < k → (get_or hs i (0, 0)).0 ≡ v) → ((i : ℕ) → i + 1 < m → (get_or gs i (0, 0)).1 < (get_or gs (i + 1) (0, 0)).1) → ((i : ℕ) → i + 1 < k → (get_or hs i (0, 0)).1 < (get_or hs (i + 1) (0, 0)).1) → ((i : ℕ) → i < m → (get_or gs i (0, 0)).1 < v) → ((i : ℕ) → i < k → v < (get_or hs i (0, 0)).1) → IsRun (gs ++ hs) v (take m gs ++ take k hs) (drop m gs ++ drop k hs)
is_run gs hs v m k (inl first) le le' some some' of of' up up' low high = record {
  other = (get_or gs 0 (0, 0)).1;
  some = has_edge-append (v, (get_or gs 0 (0, 0)).1) gs hs ∙ ap (λ b. b || has_edge (v, (get_or gs 0 (0, 0)).1) hs) (first_has v gs first.0 first.1);
  of = of_run gs hs v m k le le' of of';
  rising = run_rises gs hs v m k le le' up up' low high;
  all = λ e. in_parts e m k gs hs;
  fewer = fewer_left gs hs v m k le le' (inl (some first.0 first.1));
}
is_run gs hs v m k (inr first) le le' some some' of of' up up' low high = record {
  other = (get_or hs 0 (0, 0)).1;
  some = has_edge-append (v, (get_or hs 0 (0, 0)).1) gs hs ∙ ap (λ b. has_edge (v, (get_or hs 0 (0, 0)).1) gs || b) (first_has v hs first.0 first.1) ∙ or-true (has_edge (v, (get_or hs 0 (0, 0)).1) gs);
  of = of_run gs hs v m k le le' of of';
  rising = run_rises gs hs v m k le le' up up' low high;
  all = λ e. in_parts e m k gs hs;
  fewer = fewer_left gs hs v m k le le' (inr (some' first.0 first.1));
}

-- the vertex of a run has a row
pub run_inside : (first n : ℕ) (rest : List Pair) (v : ℕ) (run later : List Pair) → IsRun rest v run later → AreInside first n rest → (first ≤ v) × (v - first < n) × (first + (v - first) ≡ v)
run_inside first n rest v run later r inside =
    let at = inside v r.other r.some in
    (at.0, omega (arith, at.0, at.1), omega (arith, at.0))

later_inside : (first n : ℕ) (rest run later : List Pair) → ((e : Pair) → has_edge e rest ≡ has_edge e run || has_edge e later) → AreInside first n rest → AreInside first n later
later_inside first n rest run later all inside v x there = inside v x (all (v, x) ∙ ap (λ b. has_edge (v, x) run || b) there ∙ or-true (has_edge (v, x) run))

-- halves come into rows, and `rest` is to come
pub record IsGiving (first : ℕ) (old rows : List (List ℕ)) (rest halves : List Pair) : Type 0 where
  pub sized : length rows ≡ length old
  pub inside : AreInside first (length old) rest
  pub rise : (v : ℕ) → v < length old → RisesFrom 0 (get_or old v []) → RisesFrom 0 (get_or rows v [])
  pub kept : (v x : ℕ) → v < length old → has_number x (get_or old v []) ≡ true → has_number x (get_or rows v []) ≡ true
  pub has : (v x : ℕ) → v < length old → has_number x (get_or rows v []) || has_edge (first + v, x) rest ≡ has_number x (get_or old v []) || has_edge (first + v, x) halves

pub giving_next : (first : ℕ) (old rows : List (List ℕ)) (rest halves run later : List Pair) (v : ℕ) (row : List ℕ) → IsGiving first old rows rest halves → ((e : Pair) → has_edge e rest ≡ has_edge e run || has_edge e later) → AreOf (first + v) run → v < length rows → RisesFrom 0 row → ((x : ℕ) → has_number x row ≡ has_number x (get_or rows v []) || has_second x run) → IsGiving first old (set rows v row) later halves
giving_next first old rows rest halves run later v row s all of h up new = record {
  sized = length-set rows v row ∙ s.sized;
  inside = later_inside first (length old) rest run later all s.inside;
  rise = λ u lt before. grind (arith, nat_tests, get_or-set_same, get_or-set_other, s.rise);
  kept = λ u x lt there. grind (arith, nat_tests, get_or-set_same, get_or-set_other, s.kept);
  has = λ u x lt. elim (cases_eq u v) [
    | inl e ↦ rw (e, get_or-set_same rows v row [] h, new x) (regroup (has_number x (get_or rows v [])) (has_second x run) (has_edge (first + v, x) later) ∙ told v x (of_same (first + v) x run of) ∙ s.has v x (rw e at lt))
    | inr ne ↦ rw (get_or-set_other rows v u row [] ne) (told u x (of_other (first + v) (first + u) x run of (λ e. ne (omega (arith, e)))) ∙ s.has u x lt)
  ];
}
  where
    regroup : (a b c : Bool) → ((a || b) || c) ≡ (a || (b || c))
    regroup true b c = refl
    regroup false b c = refl

    told : (u x : ℕ) {b : Bool} → has_edge (first + u, x) run ≡ b → (has_number x (get_or rows u []) || (b || has_edge (first + u, x) later)) ≡ (has_number x (get_or rows u []) || has_edge (first + u, x) rest)
    told u x is = ap (λ c. has_number x (get_or rows u []) || c) (ap (λ c. c || has_edge (first + u, x) later) (sym is) ∙ sym (all (first + u, x)))

-- halves leave rows, and `rest` is to leave
pub record IsTaking (first : ℕ) (old rows : List (List ℕ)) (rest halves : List Pair) : Type 0 where
  pub sized : length rows ≡ length old
  pub inside : AreInside first (length old) rest
  pub rise : (v : ℕ) → v < length old → RisesFrom 0 (get_or old v []) → RisesFrom 0 (get_or rows v [])
  pub has : (v x : ℕ) → v < length old → not (has_edge (first + v, x) rest) && has_number x (get_or rows v []) ≡ not (has_edge (first + v, x) halves) && has_number x (get_or old v [])

has_number-filter : (x : ℕ) (p : ℕ → Bool) (xs : List ℕ) → has_number x (filter p xs) ≡ p x && has_number x xs
has_number-filter x p [] = grind (arith, nat_tests)
has_number-filter x p (y ∷ ys) = grind (arith, nat_tests, has_number-filter x p ys)

pub taking_next : (first : ℕ) (old rows : List (List ℕ)) (rest halves run later : List Pair) (v : ℕ) (row : List ℕ) → IsTaking first old rows rest halves → ((e : Pair) → has_edge e rest ≡ has_edge e run || has_edge e later) → AreOf (first + v) run → v < length rows → RisesFrom 0 row → row ≡ filter (λ x. not (has_second x run)) (get_or rows v []) → IsTaking first old (set rows v row) later halves
taking_next first old rows rest halves run later v row s all of h up new = record {
  sized = length-set rows v row ∙ s.sized;
  inside = later_inside first (length old) rest run later all s.inside;
  rise = λ u lt before. grind (arith, nat_tests, get_or-set_same, get_or-set_other, s.rise);
  has = λ u x lt. elim (cases_eq u v) [
    | inl e ↦ rw (e, get_or-set_same rows v row [] h, new, has_number-filter x (λ y. not (has_second y run)) (get_or rows v [])) (regroup (has_number x (get_or rows v [])) (has_second x run) (has_edge (first + v, x) later) ∙ told v x (of_same (first + v) x run of) ∙ s.has v x (rw e at lt))
    | inr ne ↦ rw (get_or-set_other rows v u row [] ne) (told u x (of_other (first + v) (first + u) x run of (λ e. ne (omega (arith, e)))) ∙ s.has u x lt)
  ];
}
  where
    regroup : (a b c : Bool) → (not c && (not b && a)) ≡ (not (b || c) && a)
    regroup a true true = refl
    regroup a true false = refl
    regroup a false true = refl
    regroup a false false = refl

    told : (u x : ℕ) {b : Bool} → has_edge (first + u, x) run ≡ b → (not (b || has_edge (first + u, x) later) && has_number x (get_or rows u [])) ≡ (not (has_edge (first + u, x) rest) && has_number x (get_or rows u []))
    told u x is = ap (λ c. not c && has_number x (get_or rows u [])) (ap (λ c. c || has_edge (first + u, x) later) (sym is) ∙ sym (all (first + u, x)))

pub on_ok : {A E : Type 0} (r : Result A E) (P Q : Type 0) → (P → Q) → OnOk r P → OnOk r Q
on_ok (Ok x) P Q then p = then p
on_ok (Err e) P Q then p = tt

-- a single half comes into a row
pub given_one : (row new : List ℕ) (hs : List Pair) (h d : Pair) (w : ℕ) → 1 ≤ length hs → length hs < 2 → h ≡ get_or hs 0 d → w ≡ h.1 → new ≡ put w row → (x : ℕ) → has_number x new ≡ has_number x row || has_second x hs
given_one row new [] h d w some few is w_is new_is x = absurd (omega (arith, some))
given_one row new (g ∷ []) h d w some few is w_is new_is x = grind (arith, nat_tests, has_number-put)
given_one row new (g ∷ f ∷ fs) h d w some few is w_is new_is x = absurd (omega (arith, few))

-- a single half leaves a row
pub taken_one : (row new : List ℕ) (hs : List Pair) (w : ℕ) → 1 ≤ length hs → length hs < 2 → w ≡ (get_or hs 0 (0, 0)).1 → new ≡ without w row → new ≡ filter (λ x. not (has_second x hs)) row
taken_one row new [] w some few is new_is = absurd (omega (arith, some))
taken_one row new (g ∷ []) w some few is new_is = grind (arith, nat_tests)
taken_one row new (g ∷ f ∷ fs) w some few is new_is = absurd (omega (arith, few))
