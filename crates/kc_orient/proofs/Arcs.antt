-- The lists of out-neighbours have together as many members as the graph has edges.
use Rattle.std.proofs.Common.{ℕ, suc, zero, ◌+◌, ◌≤◌, ◌≡◌, ◌≢◌, inl, inr, cond, ltb, eqb, List, [], ◌∷◌, length, map, refl, ap, ◌∙◌, arith, add-one, rules}
use Rattle.std.specs.Prelude.{filter, sum_by}
use Rattle.std.specs.List.{range_with_len}
use Rattle.std.proofs.lemmas.Bool.{cases_lt, lt-ltb}
use Rattle.std.proofs.lemmas.Bool.Decides.{nat_tests}
use Rattle.std.proofs.lemmas.List.FromFn.{sum_by-map-range_with_len_more}
use Rattle.kc_graph.specs.Shape.{GraphShape, Pair, EdgesFrom, IsGraph, neighbours_of}
use Rattle.kc_orient.specs.Shape.{above, out_neighbours}
use Rattle.kc_orient.specs.Laws.{EachEdgeOnce}
use Rattle.kc_orient.proofs.Upward.{above_one_way, out_joined, edge_once}
use Rattle.kc_graph.proofs.lemmas.Neighbours.{neighbours_rise}
use Rattle.kc_graph.proofs.lemmas.Numbers.{rises_filter}

-- how many out-neighbours the vertices below k have
unfoldable pub arcs : List Pair → List ℕ → ℕ → ℕ
arcs es x zero = 0
arcs es x (suc k) = arcs es x k + length (filter (above x k) (neighbours_of k es))

-- what an edge adds at a vertex
one_more : (e : Pair) (es : List Pair) (x : List ℕ) (k : ℕ) → e.0 ≢ e.1 →
    length (filter (above x k) (neighbours_of k (e ∷ es))) ≡ length (filter (above x k) (neighbours_of k es)) + cond (eqb e.0 k) (cond (above x e.0 e.1) 1 0) 0 + cond (eqb e.1 k) (cond (above x e.1 e.0) 1 0) 0
one_more e es x k ne = grind (arith, nat_tests)

-- what an edge adds at the vertices below k
arcs-more : (e : Pair) (es : List Pair) (x : List ℕ) (k : ℕ) → e.0 ≢ e.1 →
    arcs (e ∷ es) x k ≡ arcs es x k + cond (ltb e.0 k) (cond (above x e.0 e.1) 1 0) 0 + cond (ltb e.1 k) (cond (above x e.1 e.0) 1 0) 0
unfolding arcs
arcs-more e es x zero ne = search rules
arcs-more e es x (suc k) ne = search (rules, arcs-more e es x k ne, one_more)

arcs-none : (x : List ℕ) (k : ℕ) → arcs [] x k ≡ 0
unfolding arcs
arcs-none x zero = refl
arcs-none x (suc k) = omega (arith, arcs-none x k)

arcs-all : (n a b : ℕ) (es : List Pair) (x : List ℕ) → EdgesFrom n a b es → arcs es x n ≡ length es
arcs-all n a b [] x from = arcs-none x n
arcs-all n a b (e ∷ es) x from = grind (arith, nat_tests, arcs-all n e.0 (suc e.1) es x from.3, above_one_way, lt-ltb, arcs-more)

arcs-rise : (es : List Pair) (x : List ℕ) (k m : ℕ) → k ≤ m → arcs es x k ≤ arcs es x m
unfolding arcs
arcs-rise es x k zero le = let e : k ≡ 0 = omega arith in rw e (omega arith)
arcs-rise es x k (suc m) le = elim (cases_lt m k) [
  | inl lt ↦ let e : k ≡ suc m = omega arith in rw e (omega arith)
  | inr ge ↦ omega (arith, arcs-rise es x k m ge)
]

pub arcs-below : (g : GraphShape) (x : List ℕ) (k : ℕ) → IsGraph g → k ≤ g.vertices → arcs g.edges x k ≤ length g.edges
arcs-below g x k graph le = omega (arith, arcs-rise g.edges x k g.vertices le, arcs-all g.vertices 0 0 g.edges x graph)

outs-sum : (g : GraphShape) (x : List ℕ) (k : ℕ) → sum_by length (map (out_neighbours g x) (range_with_len 0 k)) ≡ arcs g.edges x k
unfolding arcs
outs-sum g x zero = refl
outs-sum g x (suc k) =
    let step = rw add-one at (sum_by-map-range_with_len_more length (out_neighbours g x) 0 k k (omega arith)) in
    step ∙ ap (λ s. s + length (out_neighbours g x k)) (outs-sum g x k)

pub each_edge_once : EachEdgeOnce
each_edge_once = record {
  edge = edge_once;
  only = out_joined;
  ascending = λ g x v graph. rises_filter 0 (above x v) (neighbours_of v g.edges) (neighbours_rise g.vertices v g.edges graph);
  count = λ g x graph. outs-sum g x g.vertices ∙ arcs-all g.vertices 0 0 g.edges x graph;
}
