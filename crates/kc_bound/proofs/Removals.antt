-- What is left of a graph where vertices with few neighbours left are taken away, one after another, and how few of the
-- higher levels go with it.
use Rattle.std.proofs.Common.{ℕ, suc, zero, ◌+◌, ◌*◌, ◌≤◌, ◌<◌, ◌≡◌, ◌≢◌, ◌⊎◌, inl, inr, Bool, true, false, not, ◌&&◌, cond, eqb, leb, ltb, List, get_or, refl, ap, arith}
use Rattle.std.specs.Prelude.{count_by}
use Rattle.std.proofs.lemmas.Bool.{cases_lt, cases_eq, cases_Bool, both_ways, and_parts, le-leb, lt-leb, ltb-true, lt-ltb, eq-eqb, ne_eqb}
use Rattle.std.proofs.lemmas.Bool.Decides.{nat_tests}
use Rattle.kc_graph.specs.Shape.{GraphShape, IsGraph, neighbours_of}
use Rattle.kc_levels.specs.LevelList.{at_least}
use Rattle.kc_graph.specs.Numbers.{count_below}
use Rattle.kc_graph.proofs.lemmas.Counts.{count_below-le}
use Rattle.kc_levels.proofs.lemmas.AtLeast.{count_by-mono}
use Rattle.kc_bound.specs.Cores.{degree_within, IsCore}
use Rattle.kc_bound.proofs.Counts.{count_by-cover, count_below-none, count_below-pos, count_below-moved, crossing, crossing-none, crossing-moved}

-- the vertices taken away, and those left, at level k or above
abbrev pub gone : (ℕ → Bool) → List ℕ → ℕ → ℕ → Bool
gone a x k u = not (a u) && leb k (get_or x u 0)

abbrev pub left : (ℕ → Bool) → List ℕ → ℕ → ℕ → Bool
left a x k u = a u && leb k (get_or x u 0)

abbrev pub minus : (ℕ → Bool) → ℕ → ℕ → Bool
minus a v u = cond (eqb u v) false (a u)

pub minus-same : (a : ℕ → Bool) (v : ℕ) → minus a v v ≡ false
minus-same a v = rw (eq-eqb v v refl) refl

pub minus-other : (a : ℕ → Bool) (v w : ℕ) → w ≢ v → minus a v w ≡ a w
minus-other a v w ne = rw (ne_eqb w v ne) refl

-- each vertex above level k has l neighbours at k or above
abbrev pub Needs : GraphShape → List ℕ → ℕ → ℕ → Type 0
Needs g x k l = (u : ℕ) → u < g.vertices → k < get_or x u 0 → l ≤ at_least g x u k

-- what taking vertices away keeps, when each had at most t neighbours left
pub record IsThinned (g : GraphShape) (t : ℕ) (a : ℕ → Bool) : Type 0 where
  pub vertices : (u : ℕ) → a u ≡ true → u < g.vertices
  pub keeps : (s : ℕ → Bool) → IsCore g (suc t) s → (u : ℕ) → s u ≡ true → a u ≡ true
  pub spent : (x : List ℕ) (k m : ℕ) → Needs g x k (t + m) → m * count_below g.vertices (gone a x (suc k)) + crossing (gone a x k) (left a x (suc k)) g.edges ≤ t * count_below g.vertices (gone a x k)

pub thinned_first : (g : GraphShape) (t : ℕ) → IsGraph g → IsThinned g t (λ u. ltb u g.vertices)
thinned_first g t graph = record {
  vertices = λ u e. ltb-true u g.vertices e;
  keeps = λ s core u e. lt-ltb u g.vertices (core.vertices u e);
  spent = λ x k m needs. grind (arith, nat_tests, count_below-none, crossing, crossing-none);
}

-- the three kinds of vertex that may be taken away
pub high_step : (m t r s y y' c d r' s' : ℕ) → m * r + y ≤ t * s → y' + c ≡ y + d → m ≤ c → d ≤ t → r' ≡ r + 1 → s' ≡ s + 1 → m * r' + y' ≤ t * s'
high_step m t r s y y' c d r' s' h e few many er es = rw (er, es) (omega arith)

pub mid_step : (m t r s y y' d r' s' : ℕ) → m * r + y ≤ t * s → y' + 0 ≡ y + d → d ≤ t → r' ≡ r + 0 → s' ≡ s + 1 → m * r' + y' ≤ t * s'
mid_step m t r s y y' d r' s' h e many er es = rw (er, es) (omega arith)

pub low_step : (m t r s y y' r' s' : ℕ) → m * r + y ≤ t * s → y' + 0 ≡ y + 0 → r' ≡ r + 0 → s' ≡ s + 0 → m * r' + y' ≤ t * s'
low_step m t r s y y' r' s' h e er es = rw (er, es) (omega arith)

pub thinned_more : (g : GraphShape) (t : ℕ) (a : ℕ → Bool) (v : ℕ) → IsGraph g → IsThinned g t a → v < g.vertices → a v ≡ true → count_by a (neighbours_of v g.edges) ≤ t → IsThinned g t (minus a v)
unfolding degree_within at_least
thinned_more g t a v graph thin h holds few = record {
  vertices = λ u e. grind (arith, nat_tests, minus-other, thin.vertices);
  keeps = λ s core u e. grind (arith, nat_tests, count_by-mono, minus-other, core.enough, thin.keeps);
  spent = λ x k m needs. step x k m needs;
}
  where
    gone_other : (x : List ℕ) (k w : ℕ) → w ≢ v → gone (minus a v) x k w ≡ gone a x k w
    gone_other x k w ne = ap (λ b. not b && leb k (get_or x w 0)) (minus-other a v w ne)

    left_other : (x : List ℕ) (k w : ℕ) → w ≢ v → left (minus a v) x k w ≡ left a x k w
    left_other x k w ne = ap (λ b. b && leb k (get_or x w 0)) (minus-other a v w ne)

    gone_before : (x : List ℕ) (k : ℕ) → gone a x k v ≡ false
    gone_before x k = rw holds refl

    left_before : (x : List ℕ) (k : ℕ) → left a x k v ≡ leb k (get_or x v 0)
    left_before x k = rw holds refl

    gone_after : (x : List ℕ) (k : ℕ) → gone (minus a v) x k v ≡ leb k (get_or x v 0)
    gone_after x k = ap (λ b. not b && leb k (get_or x v 0)) (minus-same a v)

    left_after : (x : List ℕ) (k : ℕ) → left (minus a v) x k v ≡ false
    left_after x k = ap (λ b. b && leb k (get_or x v 0)) (minus-same a v)

    sized : (x : List ℕ) (k : ℕ) (b : Bool) → leb k (get_or x v 0) ≡ b → count_below g.vertices (gone (minus a v) x k) ≡ count_below g.vertices (gone a x k) + cond b 1 0
    sized x k b e =
        let moved = count_below-moved g.vertices (gone a x k) (gone (minus a v) x k) v (λ w ne. gone_other x k w ne) h in
        omega (arith, rw (gone_before x k, gone_after x k, e) at moved)

    crossed : (x : List ℕ) (k : ℕ) (b c : Bool) → leb k (get_or x v 0) ≡ b → leb (suc k) (get_or x v 0) ≡ c → crossing (gone (minus a v) x k) (left (minus a v) x (suc k)) g.edges + cond c (count_by (gone a x k) (neighbours_of v g.edges)) 0 ≡ crossing (gone a x k) (left a x (suc k)) g.edges + cond b (count_by (left a x (suc k)) (neighbours_of v g.edges)) 0
    crossed x k b c e f =
        let moved = crossing-moved g.vertices 0 0 v (gone a x k) (gone (minus a v) x k) (left a x (suc k)) (left (minus a v) x (suc k)) g.edges graph (λ w ne. gone_other x k w ne) (λ w ne. left_other x (suc k) w ne) (gone_before x k) (left_after x (suc k)) in
        rw (left_before x (suc k), f, gone_after x k, e) at moved

    still_few : (x : List ℕ) (k : ℕ) → count_by (left a x k) (neighbours_of v g.edges) ≤ t
    still_few x k = grind (arith, nat_tests, count_by-mono, and_parts)

    gone_or_left : (x : List ℕ) (k w : ℕ) → leb k (get_or x w 0) ≡ true → (gone a x k w ≡ true) ⊎ (a w ≡ true)
    gone_or_left x k w e = grind (arith, nat_tests)

    step : (x : List ℕ) (k m : ℕ) → Needs g x k (t + m) → m * count_below g.vertices (gone (minus a v) x (suc k)) + crossing (gone (minus a v) x k) (left (minus a v) x (suc k)) g.edges ≤ t * count_below g.vertices (gone (minus a v) x k)
    step x k m needs = elim (cases_lt k (get_or x v 0)) [
      | inl above ↦
          let there : leb k (get_or x v 0) ≡ true = le-leb k (get_or x v 0) (omega arith) in
          let over : leb (suc k) (get_or x v 0) ≡ true = le-leb (suc k) (get_or x v 0) above in
          let enough : t + m ≤ count_by (λ w. leb k (get_or x w 0)) (neighbours_of v g.edges) = needs v h above in
          let parts : count_by (λ w. leb k (get_or x w 0)) (neighbours_of v g.edges) ≤ count_by (gone a x k) (neighbours_of v g.edges) + count_by a (neighbours_of v g.edges) = count_by-cover (gone a x k) a (λ w. leb k (get_or x w 0)) (neighbours_of v g.edges) (λ w e. gone_or_left x k w e) in
          high_step m t (count_below g.vertices (gone a x (suc k))) (count_below g.vertices (gone a x k)) (crossing (gone a x k) (left a x (suc k)) g.edges) _
          (count_by (gone a x k) (neighbours_of v g.edges)) (count_by (left a x (suc k)) (neighbours_of v g.edges)) _ _
          (thin.spent x k m needs) (crossed x k true true there over) (omega arith) (still_few x (suc k)) (sized x (suc k) true over) (sized x k true there)
      | inr below ↦ elim (cases_lt (get_or x v 0) k) [
        | inl under ↦
            let not_there : leb k (get_or x v 0) ≡ false = lt-leb k (get_or x v 0) under in
            let not_over : leb (suc k) (get_or x v 0) ≡ false = lt-leb (suc k) (get_or x v 0) (omega arith) in
            low_step m t (count_below g.vertices (gone a x (suc k))) (count_below g.vertices (gone a x k)) (crossing (gone a x k) (left a x (suc k)) g.edges) _ _ _
            (thin.spent x k m needs) (crossed x k false false not_there not_over) (sized x (suc k) false not_over) (sized x k false not_there)
        | inr at ↦
            let there : leb k (get_or x v 0) ≡ true = le-leb k (get_or x v 0) at in
            let not_over : leb (suc k) (get_or x v 0) ≡ false = lt-leb (suc k) (get_or x v 0) (omega arith) in
            mid_step m t (count_below g.vertices (gone a x (suc k))) (count_below g.vertices (gone a x k)) (crossing (gone a x k) (left a x (suc k)) g.edges) _
            (count_by (left a x (suc k)) (neighbours_of v g.edges)) _ _
            (thin.spent x k m needs) (crossed x k true false there not_over) (still_few x (suc k)) (sized x (suc k) false not_over) (sized x k true there)
      ]
    ]

-- a vertex that is left with at most t neighbours left, or none
pub record Thin (g : GraphShape) (t : ℕ) (a : ℕ → Bool) (n : ℕ) : Type 0 where
  pub vertex : ℕ
  pub below : vertex < n
  pub here : a vertex ≡ true
  pub few : count_by a (neighbours_of vertex g.edges) ≤ t

pub thin_or_none : (g : GraphShape) (t : ℕ) (a : ℕ → Bool) (n : ℕ) → Thin g t a n ⊎ ((v : ℕ) → v < n → a v ≡ true → t < count_by a (neighbours_of v g.edges))
thin_or_none g t a zero = inr (λ v h e. absurd (omega arith))
thin_or_none g t a (suc n) = elim (thin_or_none g t a n) [
  | inl f ↦ inl (record { vertex = f.vertex; below = omega (arith, f.below); here = f.here; few = f.few })
  | inr none ↦ elim (cases_Bool (a n)) [
    | inl in_set ↦ grind (arith, nat_tests, thin_or_none g t a n, cases_lt t (count_by a (neighbours_of n g.edges)))
    | inr out ↦ inr (λ v h e. grind (arith, nat_tests, thin_or_none g t a n, cases_eq v n, both_ways))
  ]
]

-- what is left in the end
pub record Rest (g : GraphShape) (t : ℕ) : Type 0 where
  pub set : ℕ → Bool
  pub thinned : IsThinned g t set
  pub core : IsCore g (suc t) set

pub rest_from : (room : ℕ) (g : GraphShape) (t : ℕ) (a : ℕ → Bool) → IsGraph g → IsThinned g t a → count_below g.vertices a ≤ room → Rest g t
unfolding degree_within
rest_from zero g t a graph thin small = elim (thin_or_none g t a g.vertices) [
  | inl f ↦ absurd (omega (arith, count_below-pos g.vertices a f.vertex f.below f.here))
  | inr none ↦ record { set = a; thinned = thin; core = record { vertices = thin.vertices; enough = λ u e. none u (thin.vertices u e) e } }
]
rest_from (suc room) g t a graph thin small = elim (thin_or_none g t a g.vertices) [
  | inl f ↦
      let moved = count_below-moved g.vertices a (minus a f.vertex) f.vertex (λ w ne. minus-other a f.vertex w ne) f.below in
      let less = rw (minus-same a f.vertex, f.here) at moved in
      rest_from room g t (minus a f.vertex) graph (thinned_more g t a f.vertex graph thin f.below f.here f.few) (omega arith)
  | inr none ↦ record { set = a; thinned = thin; core = record { vertices = thin.vertices; enough = λ u e. none u (thin.vertices u e) e } }
]

pub rest : (g : GraphShape) (t : ℕ) → IsGraph g → Rest g t
rest g t graph = rest_from g.vertices g t (λ u. ltb u g.vertices) graph (thinned_first g t graph) (count_below-le g.vertices (λ u. ltb u g.vertices))
