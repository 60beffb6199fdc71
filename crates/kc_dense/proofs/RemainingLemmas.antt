-- What the degrees among the vertices that are left become where one vertex is taken.
use Rattle.std.proofs.Common.{ℕ, suc, zero, ◌+◌, ◌≤◌, ◌<◌, ◌≡◌, ◌≢◌, inl, inr, Bool, true, false, not, ◌||◌, cond, eqb, ltb, List, [], ◌∷◌, ◌++◌, length, get_or, set, take, refl, ap, sym, ◌∙◌, arith}
use Rattle.std.proofs.Math.ListN.{length-set}
use Rattle.std.proofs.lemmas.Bool.{cases_eq, cases_Bool, true≢false, and_parts, ltb-true, ltb-false, lt-ltb, le-ltb, eq-eqb, ne_eqb}
use Rattle.std.proofs.lemmas.List.{get_or-set_same, get_or-set_other, get_or_default, get_or_past}
use Rattle.std.proofs.lemmas.Bool.Decides.{nat_tests}
use Rattle.kc_graph.specs.declared.limits.TheConstants.{MAX_VERTICES}
use Rattle.kc_graph.specs.Numbers.{has_number, RisesFrom}
use Rattle.kc_graph.specs.Shape.{GraphShape, IsGraph, neighbours_of}
use Rattle.kc_graph.proofs.lemmas.Numbers.{has_number-push, rises_at_least}
use Rattle.kc_graph.proofs.lemmas.Neighbours.{neighbours_both, no_own_neighbour, neighbour_below}
use Rattle.kc_dense.specs.declared.remaining.TheConstants.{TAKEN}
use Rattle.kc_dense.specs.Sets.{degree_within}
use Rattle.kc_dense.specs.Dense.{IsNext}
use Rattle.kc_dense.specs.private.Tournaments.{IsFirstLeast}
use Rattle.kc_dense.specs.private.Remaining.{is_left, all_but, AreRemaining, lowered}
use Rattle.kc_dense.proofs.SetLemmas.{has_other, count_by-all}
use Rattle.kc_dense.proofs.DegreeLemmas.{IsWithout, degree_agree, degree_without}

-- a vertex that is left is one of those that the list is of
pub left_inside : (degrees : List ℕ) (u : ℕ) → is_left degrees u ≡ true → u < length degrees
left_inside degrees u left = grind (arith, nat_tests, true≢false, get_or_past)

-- all degrees are those among all vertices, at first
pub remaining_first : (g : GraphShape) (degrees : List ℕ) → IsGraph g → g.vertices ≤ MAX_VERTICES → length degrees ≡ g.vertices →
    ((u : ℕ) → u < g.vertices → get_or degrees u 0 ≡ length (neighbours_of u g.edges)) → ((u : ℕ) → u < g.vertices → get_or degrees u 0 < g.vertices) →
    ((u : ℕ) → is_left degrees u ≡ ltb u g.vertices) × AreRemaining g degrees
unfolding degree_within
remaining_first g degrees graph fits sized values small = (
  all,
  record {
    sized = sized;
    few = fits;
    counts = λ u left.
        let below : u < g.vertices = omega (arith, left_inside degrees u left, sized) in
        get_or_default degrees u TAKEN 0 (omega (arith, below, sized)) ∙ values u below
        ∙ sym (count_by-all (is_left degrees) (neighbours_of u g.edges) (λ w e. all w ∙ lt-ltb w g.vertices (neighbour_below g.vertices u w g.edges graph e)));
  },
)
  where
    all : (u : ℕ) → is_left degrees u ≡ ltb u g.vertices
    all u = grind (arith, nat_tests, get_or_default, lt-ltb, get_or_past, le-ltb)

-- the least degree is that of the next vertex
pub next_least : (g : GraphShape) (degrees : List ℕ) (v : ℕ) → AreRemaining g degrees → ((u : ℕ) × (is_left degrees u ≡ true)) → IsFirstLeast degrees v → IsNext g (is_left degrees) v × (get_or degrees v 0 ≡ degree_within g (is_left degrees) v)
next_least g degrees v is some least = grind (arith, nat_tests, left_inside, get_or_default, lt-ltb, ltb-true, is.counts, least.inside, least.least, least.first, some.0, some.1)

-- the degrees after some neighbours of the vertex v, which was taken, have each lost one
pub record AreFalling (before : List ℕ) (v : ℕ) (seen : List ℕ) (degrees : List ℕ) : Type 0 where
  pub sized : length degrees ≡ length before
  pub fall : (u : ℕ) → get_or degrees u TAKEN ≡ cond (has_number u seen) (lowered (get_or (set before v TAKEN) u TAKEN)) (get_or (set before v TAKEN) u TAKEN)

pub falling_first : (before : List ℕ) (v : ℕ) → AreFalling before v [] (set before v TAKEN)
falling_first before v = record { sized = length-set before v TAKEN; fall = λ u. refl }

pub falling_more : (before : List ℕ) (v : ℕ) (seen : List ℕ) (degrees : List ℕ) (w : ℕ) → AreFalling before v seen degrees → has_number w seen ≡ false → w < length degrees →
    AreFalling before v (seen ++ w ∷ []) (set degrees w (lowered (get_or degrees w 0)))
falling_more before v seen degrees w is new inside = record {
  sized = length-set degrees w (lowered (get_or degrees w 0)) ∙ is.sized;
  fall = λ u. grind (arith, nat_tests, cases_eq u w, get_or-set_same, has_number-push, eq-eqb, none, here, get_or-set_other, ne_eqb, same, is.fall);
}
  where
    none : (b : Bool) → b || true ≡ true
    none b = grind arith

    same : (b : Bool) → b || false ≡ b
    same b = grind arith

    here : get_or degrees w 0 ≡ get_or (set before v TAKEN) w TAKEN
    here = get_or_default degrees w 0 TAKEN inside ∙ is.fall w ∙ rw new refl

-- the set of those that are left, without v
pub without_one : (s : ℕ → Bool) (v : ℕ) → s v ≡ true → IsWithout v s (all_but v s)
without_one s v holds = record {
  others = λ u ne. rw (ne_eqb u v ne) refl;
  before = holds;
  after = rw (eq-eqb v v refl) refl;
}

-- a neighbour that has not lost one yet has one to lose, if it is left
pub falling_some : (g : GraphShape) (before : List ℕ) (v : ℕ) (seen : List ℕ) (degrees : List ℕ) (w : ℕ) → IsGraph g → AreRemaining g before → is_left before v ≡ true →
    AreFalling before v seen degrees → has_number w seen ≡ false → has_number w (neighbours_of v g.edges) ≡ true → w < length degrees → get_or degrees w 0 ≢ 0
falling_some g before v seen degrees w graph remaining left is new neighbour inside = λ zero_now. elim (cases_Bool (is_left before w)) [
  | inl there ↦ omega (arith, zero_now, here, remaining.counts w there, rw back at (degree_without g (is_left before) (all_but v (is_left before)) v w graph (without_one (is_left before) v left)))
  | inr gone ↦ omega (arith, zero_now, here, ltb-false (get_or before w TAKEN) TAKEN gone)
]
  where
    back : has_number v (neighbours_of w g.edges) ≡ true
    back = sym (neighbours_both v w g.edges) ∙ neighbour

    differs : w ≢ v
    differs e = true≢false (sym neighbour ∙ ap (λ u. has_number u (neighbours_of v g.edges)) e ∙ no_own_neighbour g.vertices 0 0 v g.edges graph)

    here : get_or degrees w 0 ≡ get_or before w TAKEN
    here = get_or_default degrees w 0 TAKEN inside ∙ is.fall w ∙ rw new (get_or-set_other before v w TAKEN TAKEN differs)

pub falling_last : (g : GraphShape) (before : List ℕ) (v : ℕ) (degrees : List ℕ) → IsGraph g → AreRemaining g before → is_left before v ≡ true → AreFalling before v (neighbours_of v g.edges) degrees →
    ((u : ℕ) → is_left degrees u ≡ all_but v (is_left before) u) × AreRemaining g degrees
falling_last g before v degrees graph remaining left is = (
  others,
  record {
    sized = is.sized ∙ remaining.sized;
    few = remaining.few;
    counts = λ u now.
        let both = and_parts (not (eqb u v)) (is_left before u) (sym (others u) ∙ now) in
        let ne : u ≢ v = λ e. true≢false (sym both.0 ∙ ap not (eq-eqb u v e)) in
        let fewer = degree_without g (is_left before) (all_but v (is_left before)) v u graph (without_one (is_left before) v left) in
        at u ne ∙ lost (has_number u (neighbours_of v g.edges)) _ _ _ both.1 (remaining.counts u both.1) (rw (neighbours_both u v g.edges) at fewer)
        ∙ degree_agree g (all_but v (is_left before)) (is_left degrees) u (λ w. sym (others w));
  },
)
  where
    at : (u : ℕ) → u ≢ v → get_or degrees u TAKEN ≡ cond (has_number u (neighbours_of v g.edges)) (lowered (get_or before u TAKEN)) (get_or before u TAKEN)
    at u ne = is.fall u ∙ rw (get_or-set_other before v u TAKEN TAKEN ne) refl

    here : get_or degrees v TAKEN ≡ TAKEN
    here = is.fall v ∙ rw (no_own_neighbour g.vertices 0 0 v g.edges graph) (get_or-set_same before v TAKEN TAKEN (left_inside before v left))

    kept : (h : Bool) (d : ℕ) → ltb (cond h (lowered d) d) TAKEN ≡ ltb d TAKEN
    kept h d = grind (arith, nat_tests, lt-ltb, le-ltb)

    others : (u : ℕ) → is_left degrees u ≡ all_but v (is_left before) u
    others u = grind (arith, nat_tests, here, eq-eqb, at, kept, ne_eqb)

    lost : (h : Bool) (d big few : ℕ) → ltb d TAKEN ≡ true → d ≡ big → big ≡ few + cond h 1 0 → cond h (lowered d) d ≡ few
    lost h d big few left is_big fewer = grind (arith, nat_tests)

-- a number of a rising list is none of those before it
pub rising_new : (low : ℕ) (xs : List ℕ) (i : ℕ) → RisesFrom low xs → i < length xs → has_number (get_or xs i 0) (take i xs) ≡ false
rising_new low [] i rises lt = absurd (omega (arith, lt))
rising_new low (x ∷ xs) zero rises lt = refl
rising_new low (x ∷ xs) (suc i) rises lt = grind (arith, nat_tests, rising_new (suc x) xs i rises.1 (omega (arith, lt)), rises_at_least, has_other, rises.1)
