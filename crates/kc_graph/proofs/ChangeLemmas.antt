-- Lemmas on edges that come into a graph, or leave it, one after another.
use Rattle.std.proofs.Common.{ℕ, zero, suc, ◌+◌, ◌≤◌, ◌<◌, ◌≡◌, inr, Bool, true, false, ◌||◌, ◌&&◌, List, [], ◌∷◌, ◌++◌, length, take, refl, ap, sym, ◌∙◌, arith, append_assoc, subst}
use Rattle.std.proofs.lemmas.Bool.Decides.{nat_tests}
use Rattle.std.proofs.lemmas.List.{append-nil}
use Rattle.std.proofs.lemmas.List.Elements.{All-cons, All-head, All-tail, All-nil, All-take}
use Rattle.std.specs.Prelude.{All, not}
use Rattle.kc_graph.specs.declared.limits.TheConstants.{MAX_EDGES}
use Rattle.kc_graph.specs.Shape.{GraphShape, Pair, IsNotBefore, EdgesFrom, IsGraph, same_edge, has_edge, insert_edge, remove_edge, with_edge, without_edge, with_edges, without_edges}
use Rattle.kc_graph.specs.Changes.{CanAdd, CanRemove, AllAbsent, AllPresent}
use Rattle.kc_graph.proofs.EdgeLemmas.{not_before_first, has_edge-insert_edge, has_edge-remove_edge, edges_from_insert, edges_from_remove, length-insert_edge, length-remove_edge, insert_edge_last, same_graph}
use Rattle.kc_graph.proofs.EdgeListLemmas.{all_there, all_at}

-- an edge of ascending edges that begin after e is another
other_edge : (c d : ℕ) (e f : Pair) → IsNotBefore e.0 (suc e.1) (c, d) → IsNotBefore c d f → same_edge f e ≡ false
other_edge c d e f w at = grind (arith, nat_tests, w, at)

absent_after : (n c d : ℕ) (g : GraphShape) (e : Pair) (es : List Pair) → EdgesFrom n c d es → IsNotBefore e.0 (suc e.1) (c, d) → AllAbsent g es → AllAbsent (with_edge g e) es
absent_after n c d g e [] up w absent = All-nil (λ f. has_edge f (insert_edge e g.edges) ≡ false)
absent_after n c d g e (f ∷ fs) up w absent =
    let here : has_edge f g.edges ≡ false = All-head (λ f. has_edge f g.edges ≡ false) f fs absent in
    let other : same_edge f e ≡ false = other_edge c d e f w up.0 in
    let later : IsNotBefore e.0 (suc e.1) (f.0, suc f.1) = grind (arith, up.0, w) in
    All-cons (λ f. has_edge f (insert_edge e g.edges) ≡ false) f fs (rw (has_edge-insert_edge e f g.edges, other, here) refl)
    (absent_after n f.0 (suc f.1) g e fs up.3 later (All-tail (λ f. has_edge f g.edges ≡ false) f fs absent))

-- ascending edges that are not there may come in
pub can_add_ascending : (g : GraphShape) (a b : ℕ) (es : List Pair) → EdgesFrom g.vertices a b es → AllAbsent g es → length g.edges + length es ≤ MAX_EDGES → CanAdd g es
can_add_ascending g a b [] up absent room = tt
can_add_ascending g a b (e ∷ es) up absent room =
    let here : has_edge e g.edges ≡ false = All-head (λ f. has_edge f g.edges ≡ false) e es absent in
    let rest = absent_after g.vertices e.0 (suc e.1) g e es up.3 (inr (refl, omega arith)) (All-tail (λ f. has_edge f g.edges ≡ false) e es absent) in
    let longer = length-insert_edge e g.edges here in
    (up.2, here, omega arith, can_add_ascending (with_edge g e) e.0 (suc e.1) es up.3 rest (omega (arith, longer)))

present_after : (n c d : ℕ) (g : GraphShape) (e : Pair) (es : List Pair) → EdgesFrom n c d es → IsNotBefore e.0 (suc e.1) (c, d) → AllPresent g es → AllPresent (without_edge g e) es
present_after n c d g e [] up w present = All-nil (λ f. has_edge f (remove_edge e g.edges) ≡ true)
present_after n c d g e (f ∷ fs) up w present =
    let here : has_edge f g.edges ≡ true = All-head (λ f. has_edge f g.edges ≡ true) f fs present in
    let other : same_edge f e ≡ false = other_edge c d e f w up.0 in
    let later : IsNotBefore e.0 (suc e.1) (f.0, suc f.1) = grind (arith, up.0, w) in
    All-cons (λ f. has_edge f (remove_edge e g.edges) ≡ true) f fs (rw (has_edge-remove_edge e f g.edges, other, here) refl)
    (present_after n f.0 (suc f.1) g e fs up.3 later (All-tail (λ f. has_edge f g.edges ≡ true) f fs present))

-- ascending edges that are there may be taken out
pub can_remove_ascending : (g : GraphShape) (a b : ℕ) (es : List Pair) → EdgesFrom g.vertices a b es → AllPresent g es → CanRemove g es
can_remove_ascending g a b [] up present = tt
can_remove_ascending g a b (e ∷ es) up present =
    let here : has_edge e g.edges ≡ true = All-head (λ f. has_edge f g.edges ≡ true) e es present in
    let rest = present_after g.vertices e.0 (suc e.1) g e es up.3 (inr (refl, omega arith)) (All-tail (λ f. has_edge f g.edges ≡ true) e es present) in
    (up.2, here, can_remove_ascending (without_edge g e) e.0 (suc e.1) es up.3 rest)

pub vertices-with_edges : (g : GraphShape) (es : List Pair) → (with_edges g es).vertices ≡ g.vertices
vertices-with_edges g [] = refl
vertices-with_edges g (e ∷ es) = vertices-with_edges (with_edge g e) es

pub vertices-without_edges : (g : GraphShape) (es : List Pair) → (without_edges g es).vertices ≡ g.vertices
vertices-without_edges g [] = refl
vertices-without_edges g (e ∷ es) = vertices-without_edges (without_edge g e) es

-- an edge is there after others came in where it was there or is among them
pub has_edge-with_edges : (e : Pair) (g : GraphShape) (es : List Pair) → has_edge e (with_edges g es).edges ≡ has_edge e es || has_edge e g.edges
has_edge-with_edges e g [] = refl
has_edge-with_edges e g (f ∷ fs) =
    has_edge-with_edges e (with_edge g f) fs ∙ grind (arith, nat_tests, has_edge-insert_edge f e g.edges)

-- an edge is there after others were taken out where it was there and is not among them
pub has_edge-without_edges : (e : Pair) (g : GraphShape) (es : List Pair) → has_edge e (without_edges g es).edges ≡ not (has_edge e es) && has_edge e g.edges
has_edge-without_edges e g [] = refl
has_edge-without_edges e g (f ∷ fs) =
    has_edge-without_edges e (without_edge g f) fs ∙ grind (arith, nat_tests, has_edge-remove_edge f e g.edges)

pub length-with_edges : (g : GraphShape) (es : List Pair) → CanAdd g es → length (with_edges g es).edges ≡ length g.edges + length es
length-with_edges g [] can = omega arith
length-with_edges g (e ∷ es) can =
    omega (arith, length-with_edges (with_edge g e) es can.3, length-insert_edge e g.edges can.1)

pub length-without_edges : (g : GraphShape) (es : List Pair) → IsGraph g → CanRemove g es → length (without_edges g es).edges + length es ≡ length g.edges
length-without_edges g [] graph can = omega arith
length-without_edges g (e ∷ es) graph can =
    let rest = length-without_edges (without_edge g e) es (edges_from_remove g.vertices 0 0 e g.edges graph) can.2 in
    omega (arith, rest, length-remove_edge g.vertices 0 0 e g.edges graph can.1)

pub is_graph-with_edge : (g : GraphShape) (e : Pair) → IsGraph g → e.0 < e.1 → e.1 < g.vertices → IsGraph (with_edge g e)
is_graph-with_edge g e graph order below = edges_from_insert g.vertices 0 0 e g.edges (not_before_first e) order below graph

pub is_graph-without_edge : (g : GraphShape) (e : Pair) → IsGraph g → IsGraph (without_edge g e)
is_graph-without_edge g e graph = edges_from_remove g.vertices 0 0 e g.edges graph

-- what `is_graph-with_edges` asks, of ascending edges
pub inside_from_ascending : (n a b : ℕ) (es : List Pair) → EdgesFrom n a b es → All (λ e. (e.0 < e.1) × (e.1 < n)) es
inside_from_ascending n a b [] up = All-nil (λ (e : Pair). (e.0 < e.1) × (e.1 < n))
inside_from_ascending n a b (e ∷ es) up =
    All-cons (λ (f : Pair). (f.0 < f.1) × (f.1 < n)) e es (up.1, up.2) (inside_from_ascending n e.0 (suc e.1) es up.3)

-- edges between vertices of a graph that come in leave a graph
pub is_graph-with_edges : (g : GraphShape) (es : List Pair) → IsGraph g → All (λ e. (e.0 < e.1) × (e.1 < g.vertices)) es → IsGraph (with_edges g es)
is_graph-with_edges g [] graph inside = graph
is_graph-with_edges g (e ∷ es) graph inside =
    let P : Pair → Type 0 = λ e. (e.0 < e.1) × (e.1 < g.vertices) in
    let here : P e = All-head P e es inside in
    is_graph-with_edges (with_edge g e) es (is_graph-with_edge g e graph here.0 here.1) (All-tail P e es inside)

-- edges that leave a graph leave a graph
pub is_graph-without_edges : (g : GraphShape) (es : List Pair) → IsGraph g → IsGraph (without_edges g es)
is_graph-without_edges g [] graph = graph
is_graph-without_edges g (e ∷ es) graph = is_graph-without_edges (without_edge g e) es (is_graph-without_edge g e graph)

pub with_edges-append : (g : GraphShape) (es fs : List Pair) → with_edges g (es ++ fs) ≡ with_edges (with_edges g es) fs
with_edges-append g [] fs = refl
with_edges-append g (e ∷ es) fs = with_edges-append (with_edge g e) es fs

edges_from_take : (n a b k : ℕ) (es : List Pair) → EdgesFrom n a b es → EdgesFrom n a b (take k es)
edges_from_take n a b zero es up = tt
edges_from_take n a b (suc k) [] up = tt
edges_from_take n a b (suc k) (e ∷ es) up = (up.0, up.1, up.2, edges_from_take n e.0 (suc e.1) k es up.3)

-- the first of ascending edges that were not there came in
module _ (g : GraphShape) (k : ℕ) (es : List Pair) (up : EdgesFrom g.vertices 0 0 es) where
  first : EdgesFrom g.vertices 0 0 (take k es)
  first = edges_from_take g.vertices 0 0 k es up

  pub first_may_leave : CanRemove (with_edges g (take k es)) (take k es)
  first_may_leave = can_remove_ascending _ 0 0 (take k es) (rw (vertices-with_edges g (take k es)) first) (all_there (take k es) (λ e. has_edge e (with_edges g (take k es)).edges ≡ true) (λ e h. has_edge-with_edges e g (take k es) ∙ rw h refl))

  pub first_left : IsGraph g → AllAbsent g es → without_edges (with_edges g (take k es)) (take k es) ≡ g
  first_left graph absent =
      let came = is_graph-with_edges g (take k es) graph (inside_from_ascending g.vertices 0 0 (take k es) first) in
      same_graph (without_edges (with_edges g (take k es)) (take k es)) g (is_graph-without_edges _ (take k es) came) graph (vertices-without_edges _ (take k es) ∙ vertices-with_edges g (take k es)) (λ e.
      has_edge-without_edges e (with_edges g (take k es)) (take k es)
      ∙ ap (λ b. not (has_edge e (take k es)) && b) (has_edge-with_edges e g (take k es))
      ∙ back (has_edge e (take k es)) (has_edge e g.edges) (all_at (take k es) (λ f. has_edge f g.edges ≡ false) (All-take (λ f. has_edge f g.edges ≡ false) k es absent) e))
    where
      back : (b c : Bool) → (b ≡ true → c ≡ false) → (not b && (b || c)) ≡ c
      back true c h = rw (h refl) refl
      back false c h = refl

-- ascending edges come in after those before them
pub added_behind : (n : ℕ) (before es : List Pair) → EdgesFrom n 0 0 (before ++ es) → with_edges (record { vertices = n; edges = before }) es ≡ record { vertices = n; edges = before ++ es }
added_behind n before [] up = ap (λ (fs : List Pair). record { vertices = n; edges = fs }) (sym (append-nil before))
added_behind n before (e ∷ es) up =
    let moved : (before ++ e ∷ []) ++ es ≡ before ++ e ∷ es = append_assoc before (e ∷ []) es in
    ap (λ (fs : List Pair). with_edges (record { vertices = n; edges = fs }) es) (insert_edge_last n 0 0 before e es up)
    ∙ added_behind n (before ++ e ∷ []) es (subst (EdgesFrom n 0 0) (sym moved) up)
    ∙ ap (λ (fs : List Pair). record { vertices = n; edges = fs }) moved

-- ascending edges that come into the graph without edges are its edges then
pub added_to_empty : (n : ℕ) (es : List Pair) → EdgesFrom n 0 0 es → with_edges (record { vertices = n; edges = [] }) es ≡ record { vertices = n; edges = es }
added_to_empty n es up = added_behind n [] es up

-- ascending edges may come into the graph without edges if they are few enough
pub can_add_to_empty : (n : ℕ) (es : List Pair) → EdgesFrom n 0 0 es → length es ≤ MAX_EDGES → CanAdd (record { vertices = n; edges = [] }) es
can_add_to_empty n es up few = can_add_ascending (record { vertices = n; edges = [] }) 0 0 es up (λ k d h. refl) (omega arith)
