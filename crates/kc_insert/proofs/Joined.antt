-- The lists of all ranges, one after another: what is in them, how often, and where.
use Rattle.std.proofs.Common.{ℕ, suc, zero, ◌+◌, ◌≤◌, ◌<◌, ◌≡◌, inl, inr, Bool, true, false, cond, eqb, ◌||◌, List, [], ◌∷◌, ◌++◌, length, get_or, set, take, ap, sym, ◌∙◌, arith, map, filter, refl}
use Rattle.std.specs.List.{flat_map}
use Rattle.std.proofs.lemmas.Bool.{cases_Bool, or_right, true≢false}
use Rattle.std.proofs.lemmas.Bool.Decides.{nat_tests}
use Rattle.std.proofs.lemmas.List.{append-nil, length-append, take_more_set, map-append}
use Rattle.std.proofs.lemmas.Grind.{flat_map-append}
use Rattle.std.proofs.lemmas.List.Elements.{filter-append}
use Rattle.kc_graph.specs.Numbers.{has_number}
use Rattle.kc_graph.proofs.lemmas.Numbers.{has_number-append}
use Rattle.kc_levels.specs.Following.{AreDistinct}
use Rattle.kc_graph.specs.Shape.{Pair, has_edge, same_edge}
use Rattle.kc_insert.specs.private.Telling.{times}
use Rattle.kc_insert.specs.private.Meetings.{AreApart}
use Rattle.kc_insert.specs.Ranges.{no_part, Part}
use Rattle.kc_insert.proofs.Adding.{times_none, times_there, times-append}
use Rattle.kc_insert.proofs.Tests.{or_either}

-- a loop that writes one range after another
pub flat_next : {P X : Type 0} (f : P → List X) (ps : List P) (i : ℕ) (p : P) → i < length ps → flat_map f (take (i + 1) (set ps i p)) ≡ flat_map f (take i ps) ++ f p
flat_next {P} {X} f ps i p at = ap (flat_map f) (take_more_set ps i p at) ∙ flat_map-append f (take i ps) (p ∷ []) ∙ ap (λ (xs : List X). flat_map f (take i ps) ++ xs) (append-nil (f p))

-- the lists with one of them another are as long as before but for it
pub length_set : {P X : Type 0} (f : P → List X) (ps : List P) (j : ℕ) (p d : P) → j < length ps → length (flat_map f (set ps j p)) + length (f (get_or ps j d)) ≡ length (flat_map f ps) + length (f p)
length_set f [] j p d at = absurd (omega arith)
length_set {P} {X} f (q ∷ ps) zero p d at = omega (arith, length-append (f p) (flat_map f ps), length-append (f q) (flat_map f ps))
length_set {P} {X} f (q ∷ ps) (suc j) p d at = omega (arith, length_set f ps j p d (omega arith), length-append (f q) (flat_map f (set ps j p)), length-append (f q) (flat_map f ps))

-- a number of one list is one of all lists
pub flat_has : {P : Type 0} (f : P → List ℕ) (ps : List P) (j v : ℕ) (d : P) → j < length ps → has_number v (f (get_or ps j d)) ≡ true → has_number v (flat_map f ps) ≡ true
flat_has f [] j v d at there = absurd (omega arith)
flat_has f (p ∷ ps) zero v d at there = has_number-append v (f p) (flat_map f ps) ∙ ap (λ b. b || has_number v (flat_map f ps)) there
flat_has f (p ∷ ps) (suc j) v d at there = has_number-append v (f p) (flat_map f ps) ∙ ap (λ b. has_number v (f p) || b) (flat_has f ps j v d (omega arith) there) ∙ grind (arith, nat_tests)

-- a number of all lists is one of one list
pub record IsOfOne {P : Type 0} (f : P → List ℕ) (ps : List P) (v : ℕ) : Type 0 where
  pub place : ℕ
  pub inside : place < length ps
  pub there : (d : P) → has_number v (f (get_or ps place d)) ≡ true

pub of_one : {P : Type 0} (f : P → List ℕ) (ps : List P) (v : ℕ) → has_number v (flat_map f ps) ≡ true → IsOfOne f ps v
of_one f [] v there = absurd (true≢false (sym there))
of_one {P} f (p ∷ ps) v there = elim (cases_Bool (has_number v (f p))) [
  | inl here ↦ record { place = 0; inside = omega arith; there = λ d. here }
  | inr none ↦
      let rest = of_one f ps v (or_either (has_number v (f p)) (has_number v (flat_map f ps)) (sym (has_number-append v (f p) (flat_map f ps)) ∙ there) none) in
      record { place = suc rest.place; inside = omega (arith, rest.inside); there = λ d. rest.there d }
]

-- distinct numbers
pub distinct_times : (vs : List ℕ) → ((v : ℕ) → times v vs ≤ 1) → AreDistinct vs
distinct_times [] once = record {}
distinct_times (v ∷ vs) once = (
  elim (cases_Bool (has_number v vs)) [
    | inr none ↦ none
    | inl there ↦ absurd (omega (arith, once v, times_there v vs there, one v (times v vs)))
  ],
  distinct_times vs (λ u. omega (arith, once u, less u)),
)
  where
    one : (k m : ℕ) → cond (eqb k k) 1 0 + m ≡ 1 + m
    one k m = grind (arith, nat_tests)

    less : (u : ℕ) → times u vs ≤ cond (eqb v u) 1 0 + times u vs
    less u = omega arith

pub times_distinct : (v : ℕ) (vs : List ℕ) → AreDistinct vs → times v vs ≤ 1
times_distinct v [] once = omega arith
times_distinct v (u ∷ us) once = grind (arith, nat_tests, times_distinct v us once.1, times_none, once.0, once.1)

-- a vertex of the lists is in one of them
pub joined_in : (f : Part → List ℕ) (ps : List Part) (v : ℕ) → has_number v (flat_map f ps) ≡ true → (j : ℕ) × (j < length ps) × (has_number v (f (get_or ps j no_part)) ≡ true)
joined_in f ps v there = let it = of_one f ps v there in (it.place, it.inside, it.there no_part)

pub joined_of : (f : Part → List ℕ) (ps : List Part) (v j : ℕ) → j < length ps → has_number v (f (get_or ps j no_part)) ≡ true → has_number v (flat_map f ps) ≡ true
joined_of f ps v j at there = flat_has f ps j v no_part at there

-- the same of pairs
pub has_edge-append : (e : Pair) (xs ys : List Pair) → has_edge e (xs ++ ys) ≡ has_edge e xs || has_edge e ys
has_edge-append e [] ys = refl
has_edge-append e (f ∷ fs) ys = grind (arith, nat_tests, has_edge-append e fs ys)

pub pairs_in : (f : Part → List Pair) (ps : List Part) (e : Pair) → has_edge e (flat_map f ps) ≡ true → (j : ℕ) × (j < length ps) × (has_edge e (f (get_or ps j no_part)) ≡ true)
pairs_in f [] e there = absurd (true≢false (sym there))
pairs_in f (p ∷ ps) e there = elim (cases_Bool (has_edge e (f p))) [
  | inl here ↦ (0, omega arith, here)
  | inr none ↦
      let later = pairs_in f ps e (or_either (has_edge e (f p)) (has_edge e (flat_map f ps)) (sym (has_edge-append e (f p) (flat_map f ps)) ∙ there) none) in
      (suc later.0, omega (arith, later.1), later.2)
]

pub pairs_of : (f : Part → List Pair) (ps : List Part) (e : Pair) (j : ℕ) → j < length ps → has_edge e (f (get_or ps j no_part)) ≡ true → has_edge e (flat_map f ps) ≡ true
pairs_of f [] e j h there = absurd (omega (arith, h))
pairs_of f (p ∷ ps) e zero h there = has_edge-append e (f p) (flat_map f ps) ∙ ap (λ b. b || has_edge e (flat_map f ps)) there
pairs_of f (p ∷ ps) e (suc j) h there = has_edge-append e (f p) (flat_map f ps) ∙ or_right (has_edge e (f p)) (has_edge e (flat_map f ps)) (pairs_of f ps e j (omega (arith, h)) there)

-- lists that are the same range by range
pub joined_same : {A : Type 0} (f h : Part → List A) (qs ps : List Part) → length qs ≡ length ps → ((j : ℕ) → j < length ps → f (get_or qs j no_part) ≡ h (get_or ps j no_part)) → flat_map f qs ≡ flat_map h ps
joined_same f h [] [] long each = refl
joined_same f h [] (p ∷ ps) long each = absurd (omega (arith, long))
joined_same f h (q ∷ qs) [] long each = absurd (omega (arith, long))
joined_same f h (q ∷ qs) (p ∷ ps) long each =
    ap (λ ys. ys ++ flat_map f qs) (each 0 (omega arith))
    ∙ ap (λ ys. h p ++ ys) (joined_same f h qs ps (omega (arith, long)) (λ j at. each (suc j) (omega (arith, at))))

-- rows of the lists, and ends of pairs
pub joined_rows : {A B : Type 0} (row : A → List B) (f : Part → List A) (ps : List Part) → flat_map row (flat_map f ps) ≡ flat_map (λ p. flat_map row (f p)) ps
joined_rows row f [] = refl
joined_rows row f (p ∷ ps) = flat_map-append row (f p) (flat_map f ps) ∙ ap (λ ys. flat_map row (f p) ++ ys) (joined_rows row f ps)

pub joined_ends : (end : Pair → ℕ) (test : Pair → Bool) (f : Part → List Pair) (ps : List Part) → map end (filter test (flat_map f ps)) ≡ flat_map (λ p. map end (filter test (f p))) ps
joined_ends end test f [] = refl
joined_ends end test f (p ∷ ps) = grind (arith, nat_tests, joined_ends end test f ps, filter-append, map-append)

or_swap : (a b c d : Bool) → (a || b) || (c || d) ≡ (a || c) || (b || d)
or_swap a b c d = grind (arith, nat_tests)

-- two lists of each range
pub has_joined : (v : ℕ) (f h : Part → List ℕ) (ps : List Part) → has_number v (flat_map (λ p. f p ++ h p) ps) ≡ has_number v (flat_map f ps) || has_number v (flat_map h ps)
has_joined v f h [] = refl
has_joined v f h (p ∷ ps) = grind (arith, nat_tests, has_joined v f h ps, has_number-append, or_swap)

pub pairs_joined : (e : Pair) (f h : Part → List Pair) (ps : List Part) → has_edge e (flat_map (λ p. f p ++ h p) ps) ≡ has_edge e (flat_map f ps) || has_edge e (flat_map h ps)
pairs_joined e f h [] = refl
pairs_joined e f h (p ∷ ps) = grind (arith, nat_tests, pairs_joined e f h ps, has_edge-append, or_swap)

-- how often a number is in two lists of each range
pub times_joined : (v : ℕ) (f h : Part → List ℕ) (ps : List Part) → times v (flat_map (λ p. f p ++ h p) ps) ≡ times v (flat_map f ps) + times v (flat_map h ps)
times_joined v f h [] = refl
times_joined v f h (p ∷ ps) = grind (arith, nat_tests, times_joined v f h ps, times-append)

-- how often a pair is in a list
abbrev pub copies : Pair → List Pair → ℕ
copies e [] = 0
copies e (f ∷ fs) = cond (same_edge e f) 1 0 + copies e fs

pub copies-append : (e : Pair) (xs ys : List Pair) → copies e (xs ++ ys) ≡ copies e xs + copies e ys
copies-append e [] ys = omega arith
copies-append e (f ∷ fs) ys = omega (arith, copies-append e fs ys)

pub copies_none : (e : Pair) (es : List Pair) → has_edge e es ≡ false → copies e es ≡ 0
copies_none e [] none = refl
copies_none e (f ∷ fs) none = omega (arith, ap {B = ℕ} (λ b. cond b 1 0) (first (same_edge e f) (has_edge e fs) none), copies_none e fs (second (same_edge e f) (has_edge e fs) none))
  where
    first : (a b : Bool) → a || b ≡ false → a ≡ false
    first a b e = grind (arith, nat_tests, e)

    second : (a b : Bool) → a || b ≡ false → b ≡ false
    second a b e = grind (arith, nat_tests, e)

pub copies_there : (e : Pair) (es : List Pair) → has_edge e es ≡ true → 1 ≤ copies e es
copies_there e [] there = absurd (true≢false (sym there))
copies_there e (f ∷ fs) there = elim (cases_Bool (same_edge e f)) [
  | inl same ↦ omega (arith, ap {B = ℕ} (λ b. cond b 1 0) same)
  | inr other ↦ omega (arith, copies_there e fs (or_either (same_edge e f) (has_edge e fs) there other))
]

pub apart_copies : (e : Pair) (es : List Pair) → AreApart es → copies e es ≤ 1
apart_copies e [] apart = omega arith
apart_copies e (f ∷ fs) apart = grind (arith, nat_tests, apart_copies e fs apart.1, copies_none, apart.1, apart.0)

pub copies_apart : (es : List Pair) → ((e : Pair) → copies e es ≤ 1) → AreApart es
copies_apart [] once = record {}
copies_apart (f ∷ fs) once = (
  elim (cases_Bool (has_edge f fs)) [
    | inr none ↦ none
    | inl there ↦ absurd (omega (arith, once f, copies_there f fs there, ap {B = ℕ} (λ b. cond b 1 0) (own f)))
  ],
  copies_apart fs (λ e. omega (arith, once e)),
)
  where
    own : (e : Pair) → same_edge e e ≡ true
    own e = grind (arith, nat_tests)

pub copies_joined : (e : Pair) (f h : Part → List Pair) (ps : List Part) → copies e (flat_map (λ p. f p ++ h p) ps) ≡ copies e (flat_map f ps) + copies e (flat_map h ps)
copies_joined e f h [] = refl
copies_joined e f h (p ∷ ps) = grind (arith, nat_tests, copies_joined e f h ps, copies-append)

-- pairs that are apart in all lists are apart in each
pub copies_part : (e : Pair) (f : Part → List Pair) (ps : List Part) (j : ℕ) → j < length ps → copies e (f (get_or ps j no_part)) ≤ copies e (flat_map f ps)
copies_part e f [] j at = absurd (omega (arith, at))
copies_part e f (p ∷ ps) zero at = omega (arith, copies-append e (f p) (flat_map f ps))
copies_part e f (p ∷ ps) (suc j) at = omega (arith, copies-append e (f p) (flat_map f ps), copies_part e f ps j (omega (arith, at)))

pub apart_part : (f : Part → List Pair) (ps : List Part) (j : ℕ) → j < length ps → AreApart (flat_map f ps) → AreApart (f (get_or ps j no_part))
apart_part f ps j at apart = copies_apart (f (get_or ps j no_part)) (λ e. omega (arith, copies_part e f ps j at, apart_copies e (flat_map f ps) apart))

-- distinct numbers of all lists are distinct in each
pub times_part_of : (v : ℕ) (f : Part → List ℕ) (ps : List Part) (j : ℕ) → j < length ps → times v (f (get_or ps j no_part)) ≤ times v (flat_map f ps)
times_part_of v f [] j at = absurd (omega (arith, at))
times_part_of v f (p ∷ ps) zero at = omega (arith, times-append v (f p) (flat_map f ps))
times_part_of v f (p ∷ ps) (suc j) at = omega (arith, times-append v (f p) (flat_map f ps), times_part_of v f ps j (omega (arith, at)))

pub distinct_part : (f : Part → List ℕ) (ps : List Part) (j : ℕ) → j < length ps → AreDistinct (flat_map f ps) → AreDistinct (f (get_or ps j no_part))
distinct_part f ps j at once = distinct_times (f (get_or ps j no_part)) (λ v. omega (arith, times_part_of v f ps j at, times_distinct v (flat_map f ps) once))
