-- What each link that is followed adds to the forest.
use Rattle.std.proofs.Common.{ℕ, ◌+◌, ◌≤◌, ◌<◌, ◌≡◌, ◌≢◌, ◌⊎◌, inl, inr, Bool, true, false, ◌&&◌, ◌||◌, eqb, ltb, List, [], ◌∷◌, ◌++◌, length, get_or, take, refl, ap, sym, ◌∙◌, arith, add-one}
use Rattle.std.proofs.Math.Seq.{take-suc, take-length}
use Rattle.std.proofs.lemmas.Bool.{cases_Bool, or_left}
use Rattle.std.proofs.lemmas.Bool.Decides.{nat_tests}
use Rattle.std.proofs.lemmas.Grind.{common_steps}
use Rattle.kc_graph.specs.Numbers.{RisesFrom, has_number}
use Rattle.kc_graph.specs.Shape.{GraphShape, Pair, neighbours_of, has_edge, same_edge}
use Rattle.kc_graph.proofs.lemmas.Numbers.{has_number-push, has_number_index}
use Rattle.kc_groups.specs.private.Forest.{IsForest, merged, AreGathered}
use Rattle.kc_groups.specs.private.Gathering.{AreNumbered, is_near, in_row, in_edges}
use Rattle.kc_groups.proofs.ForestLemmas.{gathered_same, gathered_more, gathered_one}
use Rattle.kc_groups.proofs.ListLemmas.{rises_apart, rises_less, low_first}

has_number-take : (x : ℕ) (xs : List ℕ) (p : ℕ) → p < length xs → has_number x (take (p + 1) xs) ≡ has_number x (take p xs) || eqb (get_or xs p 0) x
has_number-take x xs p h = ap (λ k. has_number x (take k xs)) (add-one p) ∙ ap (has_number x) (take-suc xs p 0 h) ∙ has_number-push x (get_or xs p 0) (take p xs)

pub has_edge-push : (e d : Pair) (es : List Pair) → has_edge e (es ++ d ∷ []) ≡ has_edge e es || same_edge e d
has_edge-push e d [] = grind (arith, nat_tests)
has_edge-push e d (f ∷ fs) = let rest = has_edge-push e d fs in grind (arith, nat_tests, rest)

pub has_edge-take : (e d : Pair) (es : List Pair) (p : ℕ) → p < length es → has_edge e (take (p + 1) es) ≡ has_edge e (take p es) || same_edge e (get_or es p d)
has_edge-take e d es p h = ap (λ k. has_edge e (take k es)) (add-one p) ∙ ap (has_edge e) (take-suc es p d h) ∙ has_edge-push e (get_or es p d) (take p es)

-- a place below that of each mover is that of a mover
place_of : (n : ℕ) (vs places : List ℕ) (v : ℕ) → AreNumbered n vs places → v < n → get_or places v 0 < length vs → length vs ≤ n → get_or vs (get_or places v 0) 0 ≡ v
place_of n vs places v num h low few = elim (cases_Bool (has_number v vs)) [
  | inl there ↦
      let at = has_number_index v vs there in
      let is : get_or places v 0 ≡ at.0 = ap (λ w. get_or places w 0) (sym at.2) ∙ num.at at.0 at.1 in
      ap (λ j. get_or vs j 0) is ∙ at.2
  | inr out ↦ absurd (omega (arith, num.none v h out))
]

-- the links of before, and those of the mover at `place` to its first p neighbours at lesser places
abbrev pub so_far : (ℕ → ℕ → Bool) → List ℕ → ℕ → List ℕ → ℕ → ℕ → ℕ → Bool
so_far before vs place items p i j = before i j || (eqb i place && is_near vs (take p items) i j)

-- no neighbour from the p-th on is less than the mover at `place`
abbrev pub IsPassed : List ℕ → ℕ → List ℕ → ℕ → Type 0
IsPassed vs place items p = (p ≡ length items) ⊎ ((p < length items) × (get_or vs place 0 ≤ get_or items p 0))

module _ (before : ℕ → ℕ → Bool) (vs : List ℕ) (place : ℕ) (items : List ℕ) where
  -- no neighbour is looked at
  pub none_so_far : (i j : ℕ) → so_far before vs place items 0 i j ≡ before i j
  none_so_far i j = grind (arith, nat_tests, common_steps)

  -- all are that are less than the mover
  pub all_so_far : (g : GraphShape) (p : ℕ) → RisesFrom 0 vs → RisesFrom 0 items → place < length vs → IsPassed vs place items p → items ≡ neighbours_of (get_or vs place 0) g.edges → (i j : ℕ) → j < length vs → (before i j || in_row g vs place i j) ≡ so_far before vs place items p i j
  all_so_far g p rises up h passed is i j hj = grind (arith, nat_tests, common_steps, is, first)
    where
      first : j < place → has_number (get_or vs j 0) items ≡ has_number (get_or vs j 0) (take p items)
      first lt = elim passed [
        | inl whole ↦ ap (has_number (get_or vs j 0)) (sym (ap (λ k. take k items) whole ∙ take-length items))
        | inr cut ↦ sym (low_first (get_or vs j 0) items 0 p up cut.0 (omega (arith, rises_less vs 0 j place rises lt h, cut.1)))
      ]

  module _ (n : ℕ) (places : List ℕ) (num : AreNumbered n vs places) (few : length vs ≤ n) (h : place < length vs) (p : ℕ) (inside : p < length items) (below : get_or items p 0 < n) where
    grown : (i j : ℕ) → so_far before vs place items (p + 1) i j ≡ so_far before vs place items p i j || (eqb i place && (ltb j i && eqb (get_or items p 0) (get_or vs j 0)))
    grown i j = grind (arith, nat_tests, common_steps, has_number-take)

    -- the neighbour doesn't move, or has a place that isn't less
    pub past_so_far : place ≤ get_or places (get_or items p 0) 0 → (i j : ℕ) → j < length vs → so_far before vs place items (p + 1) i j ≡ so_far before vs place items p i j
    past_so_far high i j hj = grind (arith, nat_tests, common_steps, grown, num.at)

    -- the neighbour moves and has a lesser place
    pub link_so_far : (other : ℕ) → other ≡ get_or places (get_or items p 0) 0 → other < place → (i j : ℕ) → j < length vs → so_far before vs place items (p + 1) i j ≡ so_far before vs place items p i j || (eqb i place && eqb j other)
    link_so_far other is less i j hj = grind (arith, nat_tests, common_steps, grown, place_of, rises_apart, num.rises)

module _ (before : ℕ → ℕ → Bool) (vs : List ℕ) (place : ℕ) (items : List ℕ) (parents : List ℕ) where
  pub row_first : AreGathered (length vs) before parents → AreGathered (length vs) (so_far before vs place items 0) parents
  row_first a = gathered_same (length vs) before (so_far before vs place items 0) parents a (λ i j hi hj. none_so_far before vs place items i j)

  pub row_last : (g : GraphShape) (p : ℕ) → RisesFrom 0 vs → RisesFrom 0 items → place < length vs → IsPassed vs place items p → items ≡ neighbours_of (get_or vs place 0) g.edges → AreGathered (length vs) (so_far before vs place items p) parents → AreGathered (length vs) (λ i j. before i j || in_row g vs place i j) parents
  row_last g p rises up h passed is a = gathered_same (length vs) (so_far before vs place items p) (λ i j. before i j || in_row g vs place i j) parents a (λ i j hi hj. all_so_far before vs place items g p rises up h passed is i j hj)

  module _ (n : ℕ) (places : List ℕ) (num : AreNumbered n vs places) (few : length vs ≤ n) (h : place < length vs) (p : ℕ) (inside : p < length items) (below : get_or items p 0 < n) where
    pub row_past : AreGathered (length vs) (so_far before vs place items p) parents → place ≤ get_or places (get_or items p 0) 0 → AreGathered (length vs) (so_far before vs place items (p + 1)) parents
    row_past a high = gathered_same (length vs) (so_far before vs place items p) (so_far before vs place items (p + 1)) parents a (λ i j hi hj. past_so_far before vs place items n places num few h p inside below high i j hj)

    pub row_link : (a : AreGathered (length vs) (so_far before vs place items p) parents) (new : List ℕ) (other : ℕ) → other ≡ get_or places (get_or items p 0) 0 → other < place → length new ≡ length parents → IsForest new (merged place other a.roots) → AreGathered (length vs) (so_far before vs place items (p + 1)) new
    row_link a new other is less long f =
        let low : other < length vs = omega (arith, less, h) in
        gathered_one (length vs) (so_far before vs place items p) (so_far before vs place items (p + 1)) parents a place other new h low
        (λ i j hi hj. link_so_far before vs place items n places num few h p inside below other is less i j hj)
        long f

-- the links of before, and those of the first k edges
abbrev pub with_first : (ℕ → ℕ → Bool) → List ℕ → List Pair → ℕ → ℕ → ℕ → Bool
with_first before vs edges k i j = before i j || in_edges (take k edges) vs i j

module _ (before : ℕ → ℕ → Bool) (vs : List ℕ) (m : ℕ) (edges : List Pair) (parents : List ℕ) where
  pub edges_first : AreGathered m before parents → AreGathered m (with_first before vs edges 0) parents
  edges_first a = grind (arith, nat_tests, common_steps, gathered_same)

  pub edges_last : (k : ℕ) → k ≡ length edges → AreGathered m (with_first before vs edges k) parents → AreGathered m (λ i j. before i j || in_edges edges vs i j) parents
  edges_last k whole a = gathered_same m (with_first before vs edges k) (λ i j. before i j || in_edges edges vs i j) parents a (λ i j hi hj. ap (λ es. before i j || in_edges es vs i j) (sym (ap (λ u. take u edges) whole ∙ take-length edges)))

  module _ (n : ℕ) (places : List ℕ) (num : AreNumbered n vs places) (few : length vs ≤ n) (long : length vs ≡ m) (k : ℕ) (d : Pair) (inside : k < length edges) (low : ((get_or edges k d).0 < n) × ((get_or edges k d).1 < n)) where
    more_edges : (i j : ℕ) → with_first before vs edges (k + 1) i j ≡ with_first before vs edges k i j || same_edge (get_or vs i 0, get_or vs j 0) (get_or edges k d)
    more_edges i j = ap (λ b. before i j || b) (has_edge-take (get_or vs i 0, get_or vs j 0) d edges k inside) ∙ spread (before i j) (in_edges (take k edges) vs i j) (same_edge (get_or vs i 0, get_or vs j 0) (get_or edges k d))
      where
        spread : (a b c : Bool) → (a || (b || c)) ≡ ((a || b) || c)
        spread true b c = refl
        spread false b c = refl

    place_is : (j v : ℕ) → j < m → get_or vs j 0 ≡ v → get_or places v 0 ≡ j
    place_is j v hj e = ap (λ w. get_or places w 0) (sym e) ∙ num.at j (omega (arith, hj, long))

    -- an end of the edge doesn't move
    pub edge_past : AreGathered m (with_first before vs edges k) parents → (m ≤ get_or places (get_or edges k d).0 0) ⊎ (m ≤ get_or places (get_or edges k d).1 0) → AreGathered m (with_first before vs edges (k + 1)) parents
    edge_past a high = gathered_same m (with_first before vs edges k) (with_first before vs edges (k + 1)) parents a (λ i j hi hj. more_edges i j ∙ no (with_first before vs edges k i j) (eqb (get_or vs i 0) (get_or edges k d).0) (eqb (get_or vs j 0) (get_or edges k d).1) (out i j hi hj))
      where
        no : (a b c : Bool) → (b ≡ false) ⊎ (c ≡ false) → (a || (b && c)) ≡ a
        no a b c (inl f) = grind (arith, nat_tests, f)
        no a b c (inr f) = grind (arith, nat_tests, f)

        far : (j v : ℕ) → j < m → m ≤ get_or places v 0 → eqb (get_or vs j 0) v ≡ false
        far j v hj le = let ne : get_or vs j 0 ≢ v = λ e. absurd (omega (arith, place_is j v hj e, le, hj)) in grind (arith, nat_tests, ne)

        out : (i j : ℕ) → i < m → j < m → (eqb (get_or vs i 0) (get_or edges k d).0 ≡ false) ⊎ (eqb (get_or vs j 0) (get_or edges k d).1 ≡ false)
        out i j hi hj = elim high [ inl le ↦ inl (far i (get_or edges k d).0 hi le) | inr le ↦ inr (far j (get_or edges k d).1 hj le) ]

    -- both ends of the edge move
    pub edge_link : (a : AreGathered m (with_first before vs edges k) parents) (new : List ℕ) (first second : ℕ) → first ≡ get_or places (get_or edges k d).0 0 → second ≡ get_or places (get_or edges k d).1 0 → first < m → second < m → length new ≡ length parents → IsForest new (merged first second a.roots) → AreGathered m (with_first before vs edges (k + 1)) new
    edge_link a new first second is_first is_second hf hs same f =
        gathered_more m (with_first before vs edges k) (with_first before vs edges (k + 1)) parents a first second new hf hs
        (more_edges first second ∙ yes (with_first before vs edges k first second) (eqb (get_or vs first 0) (get_or edges k d).0) (eqb (get_or vs second 0) (get_or edges k d).1) (grind (arith, nat_tests, at first (get_or edges k d).0 is_first hf low.0)) (grind (arith, nat_tests, at second (get_or edges k d).1 is_second hs low.1)))
        (λ i j hi hj e. more_edges i j ∙ or_left (with_first before vs edges k i j) (same_edge (get_or vs i 0, get_or vs j 0) (get_or edges k d)) e)
        (λ i j hi hj e. only i j hi hj (sym (more_edges i j) ∙ e))
        same f
      where
        at : (p v : ℕ) → p ≡ get_or places v 0 → p < m → v < n → get_or vs p 0 ≡ v
        at p v is hp hv = ap (λ u. get_or vs u 0) is ∙ place_of n vs places v num hv (omega (arith, is, hp, long)) few

        yes : (a b c : Bool) → b ≡ true → c ≡ true → (a || (b && c)) ≡ true
        yes a b c e f = grind (arith, nat_tests, e, f)

        only : (i j : ℕ) → i < m → j < m → (with_first before vs edges k i j || same_edge (get_or vs i 0, get_or vs j 0) (get_or edges k d)) ≡ true → (with_first before vs edges k i j ≡ true) ⊎ ((i ≡ first) × (j ≡ second))
        only i j hi hj e = elim (cases_Bool (with_first before vs edges k i j)) [
          | inl old ↦ inl old
          | inr none ↦
              let new : (eqb (get_or vs i 0) (get_or edges k d).0 && eqb (get_or vs j 0) (get_or edges k d).1) ≡ true = later (with_first before vs edges k i j) (same_edge (get_or vs i 0, get_or vs j 0) (get_or edges k d)) none e in
              let one : get_or vs i 0 ≡ (get_or edges k d).0 = grind (arith, nat_tests, new) in
              let two : get_or vs j 0 ≡ (get_or edges k d).1 = grind (arith, nat_tests, new) in
              inr (sym (is_first ∙ place_is i (get_or edges k d).0 hi one), sym (is_second ∙ place_is j (get_or edges k d).1 hj two))
        ]
          where
            later : (a b : Bool) → a ≡ false → (a || b) ≡ true → b ≡ true
            later a b f t = grind (arith, nat_tests, f, t)
