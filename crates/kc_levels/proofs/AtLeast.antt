-- How the number of neighbours from a level on changes with the levels.
use Rattle.std.proofs.Common.{ℕ, suc, ◌+◌, ◌≤◌, ◌<◌, ◌≡◌, ◌≢◌, ◌⊎◌, inl, inr, Bool, true, false, cond, leb, List, [], ◌∷◌, length, get_or, set, refl, ap, sym, ◌∙◌, arith}
use Rattle.std.specs.Prelude.{count_by}
use Rattle.std.proofs.lemmas.Bool.{cases_eq, le-leb, leb-true, true≢false}
use Rattle.std.proofs.lemmas.Bool.Decides.{nat_tests}
use Rattle.std.proofs.lemmas.List.{get_or-set_same, get_or-set_other, get_or_past}
use Rattle.std.proofs.lemmas.List.Sums.{sum_by-cons, count_by-le-length}
use Rattle.kc_graph.specs.Numbers.{has_number, RisesFrom}
use Rattle.kc_graph.specs.Shape.{GraphShape, IsGraph, neighbours_of}
use Rattle.kc_graph.proofs.lemmas.Neighbours.{fewer_neighbours, neighbours_rise, neighbours_both}
use Rattle.kc_graph.proofs.lemmas.Numbers.{has_number_below}
use Rattle.kc_levels.specs.LevelList.{at_least, IsBelow}

count_by-cons : (test : ℕ → Bool) (w : ℕ) (ws : List ℕ) → count_by test (w ∷ ws) ≡ cond (test w) 1 0 + count_by test ws
count_by-cons test w ws = sum_by-cons (λ u. cond (test u) 1 0) w ws

pub count_by-mono : (p q : ℕ → Bool) (xs : List ℕ) → ((x : ℕ) → p x ≡ true → q x ≡ true) → count_by p xs ≤ count_by q xs
count_by-mono p q [] more = omega arith
count_by-mono p q (x ∷ xs) more = grind (arith, nat_tests, count_by-mono p q xs more, count_by-cons)

-- a level that is at most another at each vertex is so past the end too
pub below_everywhere : (n : ℕ) (x y : List ℕ) (w : ℕ) → length x ≡ n → IsBelow n x y → get_or x w 0 ≤ get_or y w 0
below_everywhere n x y w long below = grind (arith, nat_tests, get_or_past)

-- where no level falls no count falls
pub at_least-mono : (g : GraphShape) (x y : List ℕ) (v l : ℕ) → length x ≡ g.vertices → IsBelow g.vertices x y → at_least g x v l ≤ at_least g y v l
unfolding at_least
at_least-mono g x y v l long below = grind (arith, nat_tests, count_by-mono, leb-true, below_everywhere, le-leb)

-- from a lower level on there are no fewer
pub at_least-down : (g : GraphShape) (x : List ℕ) (v k l : ℕ) → k ≤ l → at_least g x v l ≤ at_least g x v k
unfolding at_least
at_least-down g x v k l le =
    count_by-mono (λ w. leb l (get_or x w 0)) (λ w. leb k (get_or x w 0)) (neighbours_of v g.edges)
    (λ w e. le-leb k (get_or x w 0) (omega (arith, leb-true l (get_or x w 0) e)))

pub at_least-few : (g : GraphShape) (x : List ℕ) (v l : ℕ) → IsGraph g → v < g.vertices → at_least g x v l < g.vertices
unfolding at_least
at_least-few g x v l graph h =
    omega (arith, count_by-le-length (λ w. leb l (get_or x w 0)) (neighbours_of v g.edges), fewer_neighbours g.vertices v g.edges graph h)

-- a new level of a vertex that is not in the list
count_by-set : (y : List ℕ) (v k l : ℕ) (ws : List ℕ) → has_number v ws ≡ false → count_by (λ w. leb l (get_or (set y v k) w 0)) ws ≡ count_by (λ w. leb l (get_or y w 0)) ws
count_by-set y v k l [] none = refl
count_by-set y v k l (w ∷ ws) none =
    let later = count_by-set y v k l ws (grind (arith, nat_tests, none)) in
    let other : w ≢ v = λ e. true≢false (sym (grind (arith, nat_tests, e)) ∙ none) in
    let here : cond (leb l (get_or (set y v k) w 0)) 1 0 ≡ cond (leb l (get_or y w 0)) 1 0 = ap (λ j. cond (leb l j) 1 0) (get_or-set_other y v w k 0 other) in
    count_by-cons (λ u. leb l (get_or (set y v k) u 0)) w ws ∙ ap (λ m. m + count_by (λ u. leb l (get_or (set y v k) u 0)) ws) here
    ∙ ap (λ m. cond (leb l (get_or y w 0)) 1 0 + m) later ∙ sym (count_by-cons (λ u. leb l (get_or y u 0)) w ws)

-- the level of a vertex counts for its neighbours alone
pub at_least-set : (g : GraphShape) (y : List ℕ) (u v k l : ℕ) → has_number v (neighbours_of u g.edges) ≡ false → at_least g (set y v k) u l ≡ at_least g y u l
unfolding at_least
at_least-set g y u v k l none = count_by-set y v k l (neighbours_of u g.edges) none

-- a new level of a vertex of a rising list
count_by-change : (y : List ℕ) (v k l low : ℕ) (ws : List ℕ) → v < length y → RisesFrom low ws → has_number v ws ≡ true → count_by (λ w. leb l (get_or (set y v k) w 0)) ws + cond (leb l (get_or y v 0)) 1 0 ≡ count_by (λ w. leb l (get_or y w 0)) ws + cond (leb l k) 1 0
count_by-change y v k l low [] inside up there = absurd (true≢false (sym there))
count_by-change y v k l low (w ∷ ws) inside up there = elim (cases_eq w v) [
  | inl e ↦
      let rest : count_by (λ u. leb l (get_or (set y v k) u 0)) ws ≡ count_by (λ u. leb l (get_or y u 0)) ws = count_by-set y v k l ws (has_number_below (suc w) v ws up.1 (omega arith)) in
      let new : cond (leb l (get_or (set y v k) w 0)) 1 0 ≡ cond (leb l k) 1 0 = ap (λ u. cond (leb l (get_or (set y v k) u 0)) 1 0) e ∙ ap (λ j. cond (leb l j) 1 0) (get_or-set_same y v k 0 inside) in
      let old : cond (leb l (get_or y w 0)) 1 0 ≡ cond (leb l (get_or y v 0)) 1 0 = ap (λ u. cond (leb l (get_or y u 0)) 1 0) e in
      same_rest _ _ _ _ _ _ _ _ (count_by-cons (λ u. leb l (get_or (set y v k) u 0)) w ws) (count_by-cons (λ u. leb l (get_or y u 0)) w ws) rest new old
  | inr ne ↦
      let rest = count_by-change y v k l (suc w) ws inside up.1 (grind (arith, nat_tests, there, ne)) in
      let same : cond (leb l (get_or (set y v k) w 0)) 1 0 ≡ cond (leb l (get_or y w 0)) 1 0 = ap (λ j. cond (leb l j) 1 0) (get_or-set_other y v w k 0 ne) in
      same_first _ _ _ _ _ _ _ _ (count_by-cons (λ u. leb l (get_or (set y v k) u 0)) w ws) (count_by-cons (λ u. leb l (get_or y u 0)) w ws) rest same
]
  where
    same_rest : (a b c d e f x k : ℕ) → a ≡ c + d → b ≡ e + f → d ≡ f → c ≡ k → e ≡ x → a + x ≡ b + k
    same_rest a b c d e f x k p q r s t = omega arith

    same_first : (a b c d e f x k : ℕ) → a ≡ c + d → b ≡ e + f → d + x ≡ f + k → c ≡ e → a + x ≡ b + k
    same_first a b c d e f x k p q r s = omega arith

-- the count of a neighbour of v, where v goes to the level k
pub at_least-change : (g : GraphShape) (y : List ℕ) (u v k l : ℕ) → IsGraph g → v < length y → has_number u (neighbours_of v g.edges) ≡ true → at_least g (set y v k) u l + cond (leb l (get_or y v 0)) 1 0 ≡ at_least g y u l + cond (leb l k) 1 0
unfolding at_least
at_least-change g y u v k l graph inside near =
    count_by-change y v k l 0 (neighbours_of u g.edges) inside (neighbours_rise g.vertices u g.edges graph) (sym (neighbours_both v u g.edges) ∙ near)

-- it stays where v was and is on the same side of the level
pub at_least-kept : (g : GraphShape) (y : List ℕ) (u v k l : ℕ) → IsGraph g → v < length y → has_number u (neighbours_of v g.edges) ≡ true → (l ≤ get_or y v 0) × (l ≤ k) ⊎ (get_or y v 0 < l) × (k < l) → at_least g (set y v k) u l ≡ at_least g y u l
at_least-kept g y u v k l graph inside near side = grind (arith, nat_tests, at_least-change)
