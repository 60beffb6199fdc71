-- How moves and edges come into the entries of their labels, over plain lists.
use Rattle.std.proofs.Common.{ℕ, suc, zero, ◌+◌, ◌<◌, ◌≡◌, ◌≢◌, ◌⊎◌, inl, inr, Bool, true, false, cond, eqb, ◌&&◌, not, List, [], ◌∷◌, ◌++◌, length, get_or, set, map, filter, take, refl, ap, sym, ◌∙◌, arith, add-one, append-nil}
use Rattle.std.specs.Prelude.{Some, All}
use Rattle.std.proofs.lemmas.Bool.{cases_eq, cases_lt}
use Rattle.std.proofs.lemmas.Bool.Decides.{nat_tests}
use Rattle.std.proofs.lemmas.List.{length-set, length-map, map_push, get_or-map, get_or-set_same, get_or-set_other, length_push, get_or_push, get_or_append_left, get_or_default, same_lists}
use Rattle.std.proofs.lemmas.List.Elements.{All-filter, All-take, filter_more}
use Rattle.std.proofs.lemmas.Grind.{common_steps}
use Rattle.kc_graph.specs.Shape.{Pair}
use Rattle.kc_levels.specs.Moved.{is_moved, moves_between}
use Rattle.kc_levels.specs.declared.moves.Move.{Move}
use Rattle.kc_history.specs.declared.entries.Entry.{Entry}
use Rattle.kc_groups.specs.private.Labels.{AreRooted}
use Rattle.kc_groups.specs.Entries.{labels_below, moves_below, group_entry, ends_at}
use Rattle.kc_groups.specs.private.Dealing.{empty_entry, with_moves, with_edges, ArePlaces, AreDealt, AreMovesBelow, IsPlacedEdge, is_unplaced}
use Rattle.kc_groups.proofs.EndLemmas.{IsJoined}

-- Places

pub labels-more : (labels : List ℕ) (k : ℕ) → get_or labels k 0 ≡ k → labels_below labels (k + 1) ≡ labels_below labels k ++ k ∷ []
labels-more labels k e = rw add-one (grind (arith, nat_tests, e))

pub labels-same : (labels : List ℕ) (k : ℕ) → get_or labels k 0 ≢ k → labels_below labels (k + 1) ≡ labels_below labels k
labels-same labels k ne = rw add-one (grind (arith, nat_tests, ne))

pub places_none : (n : ℕ) (labels : List ℕ) → length labels ≡ n → ArePlaces n labels [] labels 0
places_none n labels sized = record {
  sized = sized;
  few = omega arith;
  low = λ i h. absurd (omega arith);
  at = λ v h e. absurd (omega arith);
  none = λ v h e. absurd (omega arith);
  back = λ i h. absurd (omega arith);
  rest = λ v h lt. refl;
}

module _ (n : ℕ) (labels places : List ℕ) (k : ℕ) (inside : k < n) where
  -- a vertex that is its own label opens an entry
  pub places_more : (roots : List ℕ) → ArePlaces n labels roots places k → get_or labels k 0 ≡ k → ArePlaces n labels (roots ++ k ∷ []) (set places k (length roots)) (k + 1)
  places_more roots p e = record {
    sized = length-set places k (length roots) ∙ p.sized;
    few = omega (arith, length_push roots k, p.few);
    low = λ i lt. elim (cases_lt i (length roots)) [
      | inl old ↦ omega (arith, get_or_append_left roots (k ∷ []) 0 i old, p.low i old)
      | inr new ↦ omega (arith, get_or_push roots k 0 i (omega (arith, length_push roots k)))
    ];
    at = λ l lt el. elim (cases_eq l k) [
      | inl same ↦
          let place : get_or (set places k (length roots)) l 0 ≡ length roots = ap (λ u. get_or (set places k (length roots)) u 0) same ∙ get_or-set_same places k (length roots) 0 (omega (arith, p.sized)) in
          (omega (arith, length_push roots k), ap (λ u. get_or (roots ++ k ∷ []) u 0) place ∙ get_or_push roots k 0 (length roots) refl ∙ sym e ∙ ap (λ u. get_or labels u 0) (sym same))
      | inr ne ↦
          let old = p.at l (omega arith) el in
          let place : get_or (set places k (length roots)) l 0 ≡ get_or places l 0 = get_or-set_other places k l (length roots) 0 ne in
          (omega (arith, length_push roots k, old.0), ap (λ u. get_or (roots ++ k ∷ []) u 0) place ∙ get_or_append_left roots (k ∷ []) 0 (get_or places l 0) old.0 ∙ old.1)
    ];
    none = λ l lt el. elim (cases_eq l k) [
      | inl same ↦ absurd (omega (arith, ap (λ u. get_or labels u 0) same))
      | inr ne ↦ get_or-set_other places k l (length roots) 0 ne ∙ p.none l (omega arith) el
    ];
    back = λ i lt. elim (cases_lt i (length roots)) [
      | inl old ↦
          let low = p.low i old in
          ap (λ u. get_or (set places k (length roots)) u 0) (get_or_append_left roots (k ∷ []) 0 i old) ∙ get_or-set_other places k (get_or roots i 0) (length roots) 0 (omega arith) ∙ p.back i old
      | inr new ↦
          let last : length roots ≡ i = omega (arith, length_push roots k) in
          ap (λ u. get_or (set places k (length roots)) u 0) (get_or_push roots k 0 i last) ∙ get_or-set_same places k (length roots) 0 (omega (arith, p.sized)) ∙ last
    ];
    rest = λ l le lt. get_or-set_other places k l (length roots) 0 (omega arith) ∙ p.rest l (omega arith) lt;
  }

  -- any other that moves takes the place of its label
  pub places_join : (roots : List ℕ) → ArePlaces n labels roots places k → get_or labels k 0 < k → get_or labels (get_or labels k 0) 0 ≡ get_or labels k 0 → ArePlaces n labels roots (set places k (get_or places (get_or labels k 0) 0)) (k + 1)
  places_join roots p under root = grind (arith, nat_tests, common_steps, length-set, get_or-set_same, get_or-set_other, p.at, p.sized, p.few, p.low, p.none, p.back, p.rest)

  -- a vertex that stays keeps no place
  pub places_past : (roots : List ℕ) → ArePlaces n labels roots places k → get_or labels k 0 ≡ n → ArePlaces n labels roots places (k + 1)
  places_past roots p e = record {
    sized = p.sized;
    few = omega (arith, p.few);
    low = λ i h. omega (arith, p.low i h);
    at = λ l lt el. elim (cases_eq l k) [ inl same ↦ absurd (omega (arith, ap (λ u. get_or labels u 0) same)) | inr ne ↦ p.at l (omega arith) el ];
    none = λ l lt el. elim (cases_eq l k) [ inl same ↦ ap (λ u. get_or places u 0) same ∙ p.rest k (omega arith) inside ∙ e | inr ne ↦ p.none l (omega arith) el ];
    back = p.back;
    rest = λ l le lt. p.rest l (omega arith) lt;
  }

-- entries are opened and places kept for the labels below k
abbrev pub IsOpening : ℕ → Bool → ℕ → List ℕ → List Entry → List ℕ → ℕ → Type 0
IsOpening phase add n labels entries places k = (entries ≡ map (empty_entry phase add) (labels_below labels k)) × ArePlaces n labels (labels_below labels k) places k

pub opening_first : (phase : ℕ) (add : Bool) (n : ℕ) (labels : List ℕ) (entries : List Entry) → length labels ≡ n → entries ≡ [] → IsOpening phase add n labels entries labels 0
opening_first phase add n labels entries sized none = (none, places_none n labels sized)

module _ (phase : ℕ) (add : Bool) (n : ℕ) (labels : List ℕ) (entries : List Entry) (places : List ℕ) (moved : ℕ → Bool) (r : AreRooted n moved labels) where
  pub opening_past : (k : ℕ) → k < n → moved k ≡ false → IsOpening phase add n labels entries places k → IsOpening phase add n labels entries places (k + 1)
  opening_past k h still o =
      let none : get_or labels k 0 ≡ n = r.none k h still in
      rw (labels-same labels k (λ e. absurd (omega (arith, none)))) (o.0, places_past n labels places k h (labels_below labels k) o.1 none)

  module _ (k : ℕ) (h : k < n) (m : moved k ≡ true) (o : IsOpening phase add n labels entries places k) where
    -- a vertex that is its own label opens an entry
    pub opening_more : get_or labels k 0 ≡ k → IsOpening phase add n labels (entries ++ empty_entry phase add k ∷ []) (set places k (length entries)) (k + 1)
    opening_more e = grind (arith, nat_tests, common_steps, length-map, labels-more, map_push, places_more, o.0, o.1)

    -- any other that moves takes the place of its label
    pub opening_join : get_or labels k 0 ≢ k → IsOpening phase add n labels entries (set places k (get_or places (get_or labels k 0) 0)) (k + 1)
    opening_join ne =
        let under : get_or labels k 0 < k = omega (arith, r.low k h m, ne) in
        rw (labels-same labels k ne) (o.0, places_join n labels places k h (labels_below labels k) o.1 under (r.root k h m).1)

-- What is done to each entry

dealt_at : (f h : ℕ → Entry → Entry) (old es : List Entry) (q : ℕ) (t : Entry) → AreDealt f old es → q < length old → ((d : Entry) → t ≡ h q (get_or old q d)) → ((p : ℕ) → p < length old → p ≢ q → (u : Entry) → h p u ≡ f p u) → AreDealt h old (set es q t)
dealt_at f h old es q t a inside here other = record {
  sized = length-set es q t ∙ a.sized;
  each = λ p d lt. elim (cases_eq p q) [
    | inl same ↦ rw same (get_or-set_same es q t d (omega (arith, a.sized)) ∙ here d)
    | inr ne ↦ get_or-set_other es q p t d ne ∙ a.each p d lt ∙ sym (other p lt ne (get_or old p d))
  ];
}

dealt_first : (f : ℕ → Entry → Entry) (old : List Entry) → ((p : ℕ) (d : Entry) → p < length old → f p (get_or old p d) ≡ get_or old p d) → AreDealt f old old
dealt_first f old same = record { sized = refl; each = λ p d lt. sym (same p d lt) }

-- Moves

pub moves_first : (places : List ℕ) (old : List Entry) → All (λ (e : Entry). e.moves ≡ []) old → AreDealt (with_moves places []) old old
moves_first places old none = dealt_first (with_moves places []) old (λ p d lt. ap (λ ms. record (get_or old p d) { moves = ms }) (sym (none p d lt)))

-- the next move comes into the entry at the place of its vertex
pub deal_move : (places : List ℕ) (ms : List Move) (i : ℕ) (d : Move) (old es : List Entry) (t : Entry) → i < length ms → AreDealt (with_moves places (take i ms)) old es → get_or places (get_or ms i d).vertex 0 < length old → t ≡ get_or es (get_or places (get_or ms i d).vertex 0) t → AreDealt (with_moves places (take (i + 1) ms)) old (set es (get_or places (get_or ms i d).vertex 0) (record t { moves = t.moves ++ get_or ms i d ∷ [] }))
deal_move places ms i d old es t h a inside read = grind (arith, nat_tests, common_steps, dealt_at, get_or_default, append-nil, filter_more, a.sized, a.each)

-- the moves that were dealt are of vertices below n, as all moves are
pub dealt_below : (n : ℕ) (places : List ℕ) (ms : List Move) (i : ℕ) (old es : List Entry) → All (λ (m : Move). m.vertex < n) ms → AreDealt (with_moves places (take i ms)) old es → AreMovesBelow n es
dealt_below n places ms i old es below a p d h =
    rw (a.each p d (omega (arith, a.sized, h)))
    (All-filter (λ (m : Move). eqb (get_or places m.vertex 0) p) (λ (m : Move). m.vertex < n) (take i ms) (All-take (λ (m : Move). m.vertex < n) i ms below))

-- the moves between two lists of levels whose vertices have the place p
pub moves_placed : (places x y : List ℕ) (p k : ℕ) → ((v : ℕ) → v < k → is_moved x y v ≡ false → eqb (get_or places v 0) p ≡ false) → filter (λ (m : Move). eqb (get_or places m.vertex 0) p) (moves_between k x y) ≡ moves_below places x y p k
moves_placed places x y p zero none = refl
moves_placed places x y p (suc k) none = grind (arith, nat_tests, common_steps, moves_placed places x y p k (λ v h. none v (omega arith)), map_push)

filter_same : {A : Type 0} (p q : A → Bool) (xs : List A) → All (λ x. p x ≡ q x) xs → filter p xs ≡ filter q xs
filter_same p q [] same = refl
filter_same p q (x ∷ xs) same = go (p x) (q x) (same 0 x (omega arith)) (filter_same p q xs (λ k d h. same (suc k) d (omega arith)))
  where
    go : (a b : Bool) → a ≡ b → filter p xs ≡ filter q xs → cond a (x ∷ filter p xs) (filter p xs) ≡ cond b (x ∷ filter q xs) (filter q xs)
    go a b e rest = rw (e, rest) refl

moves_same : (labels others x y : List ℕ) (l o k : ℕ) → ((v : ℕ) → v < k → eqb (get_or labels v 0) l ≡ eqb (get_or others v 0) o) → moves_below labels x y l k ≡ moves_below others x y o k
moves_same labels others x y l o zero same = refl
moves_same labels others x y l o (suc k) same = grind (arith, nat_tests, common_steps, moves_same labels others x y l o k (λ v h. same v (omega arith)))

abbrev entry_with : ℕ → Bool → ℕ → List Move → List Pair → Entry
entry_with phase add l ms ps = record { phase = phase; label = Some l; add = add; moves = ms; edges = ps }

same_entry : (phase : ℕ) (add : Bool) (l : ℕ) (ms ns : List Move) (ps qs : List Pair) → ms ≡ ns → ps ≡ qs → entry_with phase add l ms ps ≡ entry_with phase add l ns qs
same_entry phase add l ms ns ps qs moves edges = ap (λ us. entry_with phase add l us ps) moves ∙ ap (λ us. entry_with phase add l ns us) edges

same_test : (a l b o : ℕ) → (a ≡ l → b ≡ o) → (b ≡ o → a ≡ l) → eqb a l ≡ eqb b o
same_test a l b o to back = grind (arith, nat_tests, common_steps)

module _ (n : ℕ) (labels roots places : List ℕ) (p : ArePlaces n labels roots places n) where
  -- a vertex has place i exactly where its label stands there
  same_place : (i v : ℕ) → i < length roots → v < n → eqb (get_or places v 0) i ≡ eqb (get_or labels v 0) (get_or roots i 0)
  same_place i v inside h = grind (arith, nat_tests, common_steps, same_test, p.at, p.back, p.none, p.few, p.low)

  pub groups_are : (phase : ℕ) (add : Bool) (x y : List ℕ) (edges : List Pair) (opened moved dealt : List Entry) → All (λ (e : Pair). (e.0 < n) × (e.1 < n)) edges → opened ≡ map (empty_entry phase add) roots → (ms : List Move) → ((i : ℕ) → i < length roots → filter (λ (m : Move). eqb (get_or places m.vertex 0) i) ms ≡ moves_below places x y i n) → AreDealt (with_moves places ms) opened moved → AreDealt (with_edges places edges) moved dealt → dealt ≡ map (group_entry phase add edges x y labels n) roots
  groups_are phase add x y edges opened moved dealt inside is ms below m e =
      let long : length opened ≡ length roots = ap (λ (es : List Entry). length es) is ∙ length-map roots (empty_entry phase add) in
      let sized : length dealt ≡ length roots = e.sized ∙ m.sized ∙ long in
      same_lists dealt (map (group_entry phase add edges x y labels n) roots) (sized ∙ sym (length-map roots (group_entry phase add edges x y labels n)))
      (λ i d h.
      let low : i < length roots = omega (arith, sized) in
      let was : get_or opened i d ≡ empty_entry phase add (get_or roots i 0) = ap (λ (es : List Entry). get_or es i d) is ∙ get_or-map (empty_entry phase add) roots i 0 d low in
      let made : get_or dealt i d ≡ with_edges places edges i (with_moves places ms i (empty_entry phase add (get_or roots i 0))) =
      e.each i d (omega (arith, m.sized, long)) ∙ ap (with_edges places edges i) (m.each i d (omega (arith, long)) ∙ ap (with_moves places ms i) was) in
      let moves : filter (λ (m : Move). eqb (get_or places m.vertex 0) i) ms ≡ moves_below labels x y (get_or roots i 0) n = below i low ∙ moves_same places labels x y i (get_or roots i 0) n (λ v at. same_place i v low at) in
      let ends : filter (ends_at places i) edges ≡ filter (ends_at labels (get_or roots i 0)) edges =
      filter_same (ends_at places i) (ends_at labels (get_or roots i 0)) edges (λ k t at. either i (get_or edges k t) (same_place i (get_or edges k t).0 low (inside k t at).0) (same_place i (get_or edges k t).1 low (inside k t at).1)) in
      let is_entry : get_or dealt i d ≡ group_entry phase add edges x y labels n (get_or roots i 0) =
      made ∙ same_entry phase add (get_or roots i 0) (filter (λ (m : Move). eqb (get_or places m.vertex 0) i) ms) (moves_below labels x y (get_or roots i 0) n) (filter (ends_at places i) edges) (filter (ends_at labels (get_or roots i 0)) edges) moves ends in
      is_entry ∙ sym (get_or-map (group_entry phase add edges x y labels n) roots i 0 d low))
    where
      either : (i : ℕ) (e : Pair) → eqb (get_or places e.0 0) i ≡ eqb (get_or labels e.0 0) (get_or roots i 0) → eqb (get_or places e.1 0) i ≡ eqb (get_or labels e.1 0) (get_or roots i 0) → ends_at places i e ≡ ends_at labels (get_or roots i 0) e
      either i e first second = rw (first, second) refl

  module _ (moved : ℕ → Bool) (r : AreRooted n moved labels) where
    unplaced : (v : ℕ) → v < n → eqb (get_or places v 0) n ≡ not (moved v)
    unplaced v h = grind (arith, nat_tests, common_steps, p.at, r.root, p.few, p.none, r.none)

    pub quiet_are : (edges : List Pair) → All (λ (e : Pair). (e.0 < n) × (e.1 < n)) edges → filter (is_unplaced n places) edges ≡ filter (λ (e : Pair). not (moved e.0) && not (moved e.1)) edges
    quiet_are edges inside = grind (arith, nat_tests, common_steps, filter_same, unplaced)

    -- a vertex that stays has no place, and one that moves has one
    pub stays : (v : ℕ) → v < n → moved v ≡ false → get_or places v 0 ≡ n
    stays v h m = p.none v h (omega (arith, r.none v h m))

    pub has_place : (v : ℕ) → v < n → moved v ≡ true → get_or places v 0 < length roots
    has_place v h m = (p.at v h (r.root v h m).0).0

    -- the places of an edge in which linked ends have one label
    pub edge_placed : (e : Pair) → IsJoined n moved labels e → IsPlacedEdge n (length roots) places e
    edge_placed e j =
        let first : e.0 < n = omega (arith, j.order, j.inside) in
        record {
          order = j.order;
          inside = j.inside;
          first = some e.0 first;
          second = some e.1 j.inside;
          one = λ a b. sym (p.back (get_or places e.1 0) (at e.1 j.inside b).0) ∙ ap (λ u. get_or places u 0) ((at e.1 j.inside b).1 ∙ j.one (moves e.0 first a) (moves e.1 j.inside b) ∙ sym (at e.0 first a).1) ∙ p.back (get_or places e.0 0) (at e.0 first a).0;
        }
      where
        some : (v : ℕ) → v < n → (get_or places v 0 < length roots) ⊎ (get_or places v 0 ≡ n)
        some v h = elim (cases_lt (get_or labels v 0) n) [ inl low ↦ inl (p.at v h low).0 | inr high ↦ inr (p.none v h high) ]

        at : (v : ℕ) → v < n → get_or places v 0 < n → (get_or places v 0 < length roots) × (get_or roots (get_or places v 0) 0 ≡ get_or labels v 0)
        at v h low = elim (cases_lt (get_or labels v 0) n) [ inl is ↦ p.at v h is | inr high ↦ absurd (omega (arith, p.none v h high)) ]

        moves : (v : ℕ) → v < n → get_or places v 0 < n → moved v ≡ true
        moves v h low = go (moved v) refl
          where
            go : (b : Bool) → moved v ≡ b → b ≡ true
            go true m = refl
            go false m = absurd (omega (arith, p.none v h (omega (arith, r.none v h m))))
