-- The counts while a vertex moves to another level.
use Rattle.std.proofs.Common.{ℕ, suc, ◌+◌, ◌-◌, ◌≤◌, ◌<◌, ◌≡◌, inl, inr, true, false, cond, leb, ltb, ◌&&◌, List, [], ◌∷◌, length, get_or, set, drop, take, add-one, refl, ap, sym, ◌∙◌, arith}
use Rattle.std.specs.Prelude.{count_by}
use Rattle.std.proofs.lemmas.Bool.{cases_lt, cases_eq, cases_Bool, true≢false}
use Rattle.std.proofs.lemmas.Bool.Decides.{nat_tests}
use Rattle.std.proofs.Math.Seq.{drop-cons}
use Rattle.std.proofs.lemmas.List.{take_all, drop_all, length-set, get_or-set_same, get_or-set_other}
use Rattle.std.proofs.lemmas.List.Sums.{count_by_more_yes, count_by_more_no}
use Rattle.kc_graph.specs.Numbers.{has_number}
use Rattle.kc_graph.specs.Shape.{GraphShape, IsGraph, neighbours_of}
use Rattle.kc_graph.specs.declared.limits.TheConstants.{MAX_VERTICES}
use Rattle.kc_graph.proofs.lemmas.Numbers.{has_number_below}
use Rattle.kc_graph.proofs.lemmas.Neighbours.{neighbours_both, neighbours_rise, no_own_neighbour}
use Rattle.kc_levels.specs.LevelList.{at_least}
use Rattle.kc_levels.proofs.lemmas.Writes.{changed}
use Rattle.kc_levels.proofs.lemmas.AtLeast.{at_least-few, at_least-set, at_least-change}
use Rattle.kc_adj.specs.LeveledGraph.{IsCounted, IsAdjacency}
use Rattle.kc_adj.specs.private.Moving.{is_passed, recounted, IsMoving}

-- all counts are those with v on the level k, but each vertex counts from its old level less d on
pub record IsMoved (g : GraphShape) (x : List ℕ) (v k d : ℕ) (counts : List ℕ) : Type 0 where
  pub sized : length counts ≡ g.vertices
  pub values : (u : ℕ) → u < g.vertices → get_or counts u 0 ≡ at_least g (set x v k) u (get_or x u 0 - d)

pub moving_first : (g : GraphShape) (x : List ℕ) (v k d : ℕ) (counts : List ℕ) → IsGraph g → IsCounted g x d counts → IsMoving g x v k d counts (neighbours_of v g.edges)
moving_first g x v k d counts graph c = record {
  sized = c.sized;
  first = 0;
  rises = neighbours_rise g.vertices v g.edges graph;
  near = λ u there. there;
  waits = λ u h there. c.values u h;
  done = λ u h far. c.values u h ∙ sym (at_least-set g x u v k (get_or x u 0 - d) (neighbours_both u v g.edges ∙ far));
}

-- what there is to know of the next neighbour, w
module _ (g : GraphShape) (x : List ℕ) (v k d w : ℕ) (counts rest : List ℕ) (graph : IsGraph g) (inside : v < length x) (s : IsMoving g x v k d counts (w ∷ rest)) (h : w < g.vertices) where
  here : has_number w (w ∷ rest) ≡ true
  here = grind (arith, nat_tests)

  pub next_is : get_or counts w 0 ≡ at_least g x w (get_or x w 0 - d)
  next_is = s.waits w h here

  pub next_changes : at_least g (set x v k) w (get_or x w 0 - d) + cond (leb (get_or x w 0 - d) (get_or x v 0)) 1 0 ≡ get_or counts w 0 + cond (leb (get_or x w 0 - d) k) 1 0
  next_changes = rw next_is (at_least-change g x w v k (get_or x w 0 - d) graph inside (s.near w here))

  pub moving_next : (c : ℕ) → c + cond (leb (get_or x w 0 - d) (get_or x v 0)) 1 0 ≡ get_or counts w 0 + cond (leb (get_or x w 0 - d) k) 1 0 → IsMoving g x v k d (set counts w c) rest
  moving_next c is = record {
    sized = length-set counts w c ∙ s.sized;
    first = suc w;
    rises = s.rises.1;
    near = λ u there. s.near u (grind (arith, nat_tests, there));
    waits = λ u hu there. changed counts w c long (λ t l. has_number t rest ≡ true → l ≡ at_least g x t (get_or x t 0 - d)) u (λ at. absurd (true≢false (sym at ∙ gone))) (λ ne at. s.waits u hu (grind (arith, nat_tests, at))) there;
    done = λ u hu far. changed counts w c long (λ t l. has_number t rest ≡ false → l ≡ at_least g (set x v k) t (get_or x t 0 - d)) u (λ at. value) (λ ne at. s.done u hu (grind (arith, nat_tests, at, ne))) far;
  }
    where
      long : w < length counts
      long = omega (arith, s.sized)

      gone : has_number w rest ≡ false
      gone = has_number_below (suc w) w rest s.rises.1 (omega arith)

      value : c ≡ at_least g (set x v k) w (get_or x w 0 - d)
      value = omega (arith, is, next_changes)

-- each count is below the number of vertices
pub moving-few : (g : GraphShape) (x : List ℕ) (v k d w : ℕ) (counts rest : List ℕ) → IsGraph g → IsMoving g x v k d counts rest → w < g.vertices → get_or counts w 0 < g.vertices
moving-few g x v k d w counts rest graph s h = elim (cases_Bool (has_number w rest)) [
  | inl there ↦ omega (arith, s.waits w h there, at_least-few g x w (get_or x w 0 - d) graph h)
  | inr gone ↦ omega (arith, s.done w h gone, at_least-few g (set x v k) w (get_or x w 0 - d) graph h)
]

-- a level that is passed on the way up is reached from above alone
pub pass_up : (m r o k : ℕ) → o ≤ k → (m + cond (ltb o r && leb r k) 1 0) + cond (leb r o) 1 0 ≡ m + cond (leb r k) 1 0
pass_up m r o k le = elim (cases_lt o r) [
  | inl lt ↦ elim (cases_lt k r) [ inl over ↦ grind (arith, nat_tests, lt, over) | inr within ↦ grind (arith, nat_tests, lt, within) ]
  | inr ge ↦ let within : r ≤ k = omega (arith, ge, le) in grind (arith, nat_tests, ge, within)
]

-- a level that is passed is reached from above alone, whichever way the vertex goes
pass_both : (m r o k : ℕ) → cond (ltb k r && leb r o) 1 0 ≤ m → recounted o k r m + cond (leb r o) 1 0 ≡ m + cond (leb r k) 1 0
pass_both m r o k some = elim (cases_lt k r) [
  | inl lt ↦ elim (cases_lt o r) [ inl over ↦ grind (arith, nat_tests, lt, over, some) | inr within ↦ grind (arith, nat_tests, lt, within, some) ]
  | inr ge ↦ elim (cases_lt o r) [ inl over ↦ grind (arith, nat_tests, ge, over, some) | inr within ↦ grind (arith, nat_tests, ge, within, some) ]
]

-- a count gains only by a way up, and loses only by a way down
pub recounted_up : (k l r c : ℕ) → k < l → c + cond (is_passed k l r) 1 0 ≡ recounted k l r c
recounted_up k l r c lt = elim (cases_lt l r) [ inl over ↦ grind (arith, nat_tests, lt, over) | inr within ↦ grind (arith, nat_tests, lt, within) ]

pub recounted_down : (k l r c : ℕ) → l ≤ k → c - cond (is_passed l k r) 1 0 ≡ recounted k l r c
recounted_down k l r c le = elim (cases_lt k r) [ inl over ↦ grind (arith, nat_tests, le, over) | inr within ↦ grind (arith, nat_tests, le, within) ]

some_passed : (c m r o k : ℕ) → c + cond (leb r o) 1 0 ≡ m + cond (leb r k) 1 0 → cond (ltb k r && leb r o) 1 0 ≤ m
some_passed c m r o k e = elim (cases_lt k r) [
  | inl lt ↦ elim (cases_lt o r) [ inl over ↦ grind (arith, nat_tests, lt, over) | inr within ↦ grind (arith, nat_tests, lt, within, e) ]
  | inr ge ↦ grind (arith, nat_tests, ge)
]

-- the step of a loop at place i of the neighbours, where `reach` is the level from which the neighbour counts
module _ (g : GraphShape) (x : List ℕ) (v k d : ℕ) (counts items : List ℕ) (i old reach : ℕ) (graph : IsGraph g) (vertex : v < g.vertices) (sized : length x ≡ g.vertices) (s : IsMoving g x v k d counts (drop i items)) (at : i < length items) (low : get_or items i 0 < g.vertices) (old_is : old ≡ get_or x v 0) (reach_is : reach ≡ get_or x (get_or items i 0) 0 - d) where
  inside : v < length x
  inside = omega (arith, vertex, sized)

  pub next : IsMoving g x v k d counts (get_or items i 0 ∷ drop (suc i) items)
  next = rw (drop-cons items i 0 at) at s

  pub some_at : cond (is_passed k old reach) 1 0 ≤ get_or counts (get_or items i 0) 0
  some_at = some_passed (at_least g (set x v k) (get_or items i 0) reach) (get_or counts (get_or items i 0) 0) reach old k (rw (reach_is, old_is) (next_changes g x v k d (get_or items i 0) counts (drop (suc i) items) graph inside next low))

  pub recounted_at : IsMoving g x v k d (set counts (get_or items i 0) (recounted old k reach (get_or counts (get_or items i 0) 0))) (drop (i + 1) items)
  recounted_at = rw add-one (moving_next g x v k d (get_or items i 0) counts (drop (suc i) items) graph inside next low (recounted old k reach (get_or counts (get_or items i 0) 0)) (rw (← reach_is, ← old_is) (pass_both (get_or counts (get_or items i 0) 0) reach old k some_at)))

pub moving_last : (g : GraphShape) (x : List ℕ) (v k d : ℕ) (counts items : List ℕ) (i : ℕ) → IsMoving g x v k d counts (drop i items) → length items ≤ i → IsMoved g x v k d counts
moving_last g x v k d counts items i s end =
    let none : IsMoving g x v k d counts [] = rw (drop_all i items end) at s in
    record { sized = none.sized; values = λ u h. none.done u h refl }

-- one more neighbour is counted where it is on the level or above
pub count_next : (x items : List ℕ) (k i count one level : ℕ) → i < length items → count ≡ count_by (λ w. leb k (get_or x w 0)) (take i items) → level ≡ get_or x (get_or items i 0) 0 → one ≡ cond (leb k level) 1 0 → count + one ≡ count_by (λ w. leb k (get_or x w 0)) (take (i + 1) items)
count_next x items k i count one level at is level_is one_is = elim (cases_Bool (leb k (get_or x (get_or items i 0) 0))) [
  | inl reaches ↦
      let o : one ≡ 1 = one_is ∙ ap (λ l. cond (leb k l) 1 0) level_is ∙ ap (λ t. cond t 1 0) reaches in
      omega (arith, is, o, count_by_more_yes (λ w. leb k (get_or x w 0)) items i 0 at reaches)
  | inr under ↦
      let o : one ≡ 0 = one_is ∙ ap (λ l. cond (leb k l) 1 0) level_is ∙ ap (λ t. cond t 1 0) under in
      omega (arith, is, o, count_by_more_no (λ w. leb k (get_or x w 0)) items i 0 at under)
]

-- at the end all neighbours are looked at
pub count_last : (g : GraphShape) (x items : List ℕ) (v k i count : ℕ) → count ≡ count_by (λ w. leb k (get_or x w 0)) (take i items) → length items ≤ i → items ≡ neighbours_of v g.edges → count ≡ at_least g x v k
unfolding at_least
count_last g x items v k i count is end all = is ∙ ap (λ ws. count_by (λ w. leb k (get_or x w 0)) ws) (take_all i items end ∙ all)

-- at the end v counts from its new level on
counted_moved : (g : GraphShape) (x : List ℕ) (v k d c : ℕ) (counts : List ℕ) → v < length x → v < g.vertices → IsMoved g x v k d counts → c ≡ at_least g (set x v k) v (k - d) → IsCounted g (set x v k) d (set counts v c)
counted_moved g x v k d c counts inside h s is = record {
  sized = length-set counts v c ∙ s.sized;
  values = λ u hu. elim (cases_eq u v) [
    | inl e ↦ rw e (get_or-set_same counts v c 0 (omega (arith, s.sized)) ∙ is ∙ ap (λ l. at_least g (set x v k) v (l - d)) (sym (get_or-set_same x v k 0 inside)))
    | inr ne ↦ get_or-set_other counts v u c 0 ne ∙ s.values u hu ∙ ap (λ l. at_least g (set x v k) u (l - d)) (sym (get_or-set_other x v u k 0 ne))
  ];
}

-- v is on its new level, and both its counts are those of the old levels, since v is no neighbour of its own
pub adjacency_moved : (g : GraphShape) (x : List ℕ) (v k : ℕ) (own below : List ℕ) (c d : ℕ) → IsGraph g → g.vertices ≤ MAX_VERTICES → v < g.vertices → length x ≡ g.vertices → IsMoved g x v k 0 own → IsMoved g x v k 1 below → c ≡ at_least g x v k → d ≡ at_least g x v (k - 1) → IsAdjacency g (set x v k) (set own v c) (set below v d)
adjacency_moved g x v k own below c d graph small h sized s t ec ed =
    let inside : v < length x = omega (arith, h, sized) in
    let none = no_own_neighbour g.vertices 0 0 v g.edges graph in
    let same : k ≡ k - 0 = omega arith in
    record {
      graph = graph;
      small = small;
      sized = length-set x v k ∙ sized;
      own_counts = counted_moved g x v k 0 c own inside h s (ec ∙ sym (at_least-set g x v v k k none) ∙ ap (λ l. at_least g (set x v k) v l) same);
      below_counts = counted_moved g x v k 1 d below inside h t (ed ∙ sym (at_least-set g x v v k (k - 1) none));
    }
