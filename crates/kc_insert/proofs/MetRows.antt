-- The meetings of vertices that begin, row by row.
use Rattle.std.proofs.Common.{ℕ, suc, ◌<◌, ◌≡◌, inl, inr, true, false, ltb, eqb, ◌&&◌, List, [], ◌∷◌, ◌++◌, get_or, ap, sym, ◌∙◌, arith}
use Rattle.std.specs.List.{flat_map}
use Rattle.std.proofs.lemmas.Bool.{cases_Bool, cases_eq, or_from, or_left, or_right, true≢false}
use Rattle.std.proofs.lemmas.Bool.Decides.{nat_tests}
use Rattle.kc_graph.specs.Numbers.{has_number, RisesFrom}
use Rattle.kc_graph.specs.Shape.{GraphShape, Pair, IsGraph, has_edge, neighbours_of}
use Rattle.kc_graph.proofs.lemmas.Neighbours.{neighbours_rise}
use Rattle.kc_graph.proofs.lemmas.Numbers.{has_number_below}
use Rattle.kc_levels.specs.Following.{AreDistinct}
use Rattle.kc_insert.specs.private.Crossing.{meetings_on}
use Rattle.kc_insert.specs.private.Meetings.{AreApart}
use Rattle.kc_insert.proofs.Joined.{has_edge-append}
use Rattle.kc_insert.proofs.Tests.{or_either}

-- which pairs the meetings of v on level k are
pub has_edge-meetings_on : (x : List ℕ) (l v k : ℕ) (ws : List ℕ) (a w : ℕ) → has_edge (a, w) (meetings_on x l v k ws) ≡ (eqb a v && has_number w ws) && (ltb l k && eqb (get_or x w 0) k)
has_edge-meetings_on x l v k [] a w = grind (arith, nat_tests)
has_edge-meetings_on x l v k (t ∷ ts) a w = grind (arith, nat_tests, has_edge-meetings_on x l v k ts a w)

-- what a pair among them is
pub is_on : (x : List ℕ) (l v k : ℕ) (ws : List ℕ) (a w : ℕ) → has_edge (a, w) (meetings_on x l v k ws) ≡ true → (a ≡ v) × (has_number w ws ≡ true) × (l < k) × (get_or x w 0 ≡ k)
is_on x l v k ws a w there = grind (arith, nat_tests, has_edge-meetings_on)

-- which pairs are among them
pub is_among : (x : List ℕ) (l v k : ℕ) (ws : List ℕ) (w : ℕ) → has_number w ws ≡ true → l < k → get_or x w 0 ≡ k → has_edge (v, w) (meetings_on x l v k ws) ≡ true
is_among x l v k ws w there above on = grind (arith, nat_tests, has_edge-meetings_on)

-- none of them is there twice
pub apart_on : (x : List ℕ) (l v k low : ℕ) (ws : List ℕ) → RisesFrom low ws → AreApart (meetings_on x l v k ws)
apart_on x l v k low [] up = tt
apart_on x l v k low (t ∷ ts) up = grind (arith, nat_tests, apart_on x l v k (suc t) ts up.1, has_edge-meetings_on, has_number_below, up.1)

-- two lists with no pair in common
pub apart-append : (xs ys : List Pair) → AreApart xs → AreApart ys → ((e : Pair) → has_edge e xs ≡ true → has_edge e ys ≡ false) → AreApart (xs ++ ys)
apart-append [] ys p q off = q
apart-append (e ∷ es) ys p q off = grind (arith, nat_tests, apart-append es ys p.1 q (λ f there. off f (grind (arith, nat_tests, there))), has_edge-append, or_from, p.0, p.1)

-- the meetings of several vertices
module _ (g : GraphShape) (x : List ℕ) (l k : ℕ) where
  abbrev pub row_of : ℕ → List Pair
  row_of v = meetings_on x l v k (neighbours_of v g.edges)

  pub rows_on : (vs : List ℕ) (v w : ℕ) → has_edge (v, w) (flat_map row_of vs) ≡ true → (has_number v vs ≡ true) × (has_number w (neighbours_of v g.edges) ≡ true) × (l < k) × (get_or x w 0 ≡ k)
  rows_on [] v w there = absurd (true≢false (sym there))
  rows_on (u ∷ us) v w there = elim (cases_Bool (has_edge (v, w) (row_of u))) [
    | inl here ↦ grind (arith, nat_tests, is_on, or_left, here)
    | inr none ↦
        let it = rows_on us v w (or_either (has_edge (v, w) (row_of u)) (has_edge (v, w) (flat_map row_of us)) (sym (has_edge-append (v, w) (row_of u) (flat_map row_of us)) ∙ there) none) in
        (or_right (eqb u v) (has_number v us) it.0, it.1, it.2, it.3)
  ]

  pub rows_among : (vs : List ℕ) (v w : ℕ) → has_number v vs ≡ true → has_number w (neighbours_of v g.edges) ≡ true → l < k → get_or x w 0 ≡ k → has_edge (v, w) (flat_map row_of vs) ≡ true
  rows_among [] v w there near above on = absurd (true≢false (sym there))
  rows_among (u ∷ us) v w there near above on = has_edge-append (v, w) (row_of u) (flat_map row_of us) ∙ elim (cases_eq u v) [
    | inl e ↦ or_left (has_edge (v, w) (row_of u)) (has_edge (v, w) (flat_map row_of us)) (ap (λ a. has_edge (v, w) (row_of a)) e ∙ is_among x l v k (neighbours_of v g.edges) w near above on)
    | inr ne ↦ or_right (has_edge (v, w) (row_of u)) (has_edge (v, w) (flat_map row_of us)) (rows_among us v w (grind (arith, nat_tests, there, ne)) near above on)
  ]

  pub rows_apart : IsGraph g → (vs : List ℕ) → AreDistinct vs → AreApart (flat_map row_of vs)
  rows_apart graph [] once = record {}
  rows_apart graph (u ∷ us) once = apart-append (row_of u) (flat_map row_of us) (apart_on x l u k 0 (neighbours_of u g.edges) (neighbours_rise g.vertices u g.edges graph)) (rows_apart graph us once.1) (λ e there. elim (cases_Bool (has_edge e (flat_map row_of us))) [
    | inr none ↦ none
    | inl later ↦ absurd (true≢false (sym (rows_on us e.0 e.1 later).0 ∙ ap (λ a. has_number a us) (is_on x l u k (neighbours_of u g.edges) e.0 e.1 there).0 ∙ once.0))
  ])
