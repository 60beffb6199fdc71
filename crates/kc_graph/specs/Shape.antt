-- A graph as a number of vertices and the ascending list of its edges, each a pair of two vertices, the lesser first.
use Rattle.std.specs.Prelude.{ℕ, ◌≤◌, ◌<◌, ◌≡◌, ◌==◌, nat_lt, Bool, false, not, ◌||◌, ◌&&◌, cond, List, [], ◌∷◌, ◌⊎◌, filter}
use Rattle.std.proofs.Common.{suc}

abbrev pub Pair : Type 0
Pair = ℕ × ℕ

-- what contracts see of a `Graph`
pub record GraphShape : Type 0 where
  pub vertices : ℕ
  pub edges : List Pair

-- an edge that is not before the pair (a, b) in the order by first and then second number
abbrev pub IsNotBefore : ℕ → ℕ → Pair → Type 0
IsNotBefore a b e = (a < e.0) ⊎ ((a ≡ e.0) × (b ≤ e.1))

-- the edges ascend strictly, from (a, b) on, and each has its lesser vertex first and its vertices below n
abbrev pub EdgesFrom : ℕ → ℕ → ℕ → List Pair → Type 0
EdgesFrom n a b [] = Unit {0}
EdgesFrom n a b (e ∷ es) = IsNotBefore a b e × (e.0 < e.1) × (e.1 < n) × EdgesFrom n e.0 (suc e.1) es

-- the edges are in order, each once, between vertices of the graph
abbrev pub IsGraph : GraphShape → Type 0
IsGraph g = EdgesFrom g.vertices 0 0 g.edges

-- the other end of an edge at v, put before what follows
abbrev pub with_other : ℕ → Pair → List ℕ → List ℕ
with_other v e rest = cond (e.0 == v) (e.1 ∷ rest) (cond (e.1 == v) (e.0 ∷ rest) rest)

-- the vertices that share an edge with v
abbrev pub neighbours_of : ℕ → List Pair → List ℕ
neighbours_of v [] = []
neighbours_of v (e ∷ es) = with_other v e (neighbours_of v es)

-- whether two edges are one
abbrev pub same_edge : Pair → Pair → Bool
same_edge e f = (e.0 == f.0) && (e.1 == f.1)

-- whether the edge is in the list
abbrev pub has_edge : Pair → List Pair → Bool
has_edge e [] = false
has_edge e (f ∷ fs) = same_edge e f || has_edge e fs

-- whether v and w share an edge
abbrev pub joined : ℕ → ℕ → List Pair → Bool
joined v w edges = has_edge (v, w) edges || has_edge (w, v) edges

-- whether e stands before f, by the first and then the second number
abbrev pub precedes : Pair → Pair → Bool
precedes e f = nat_lt e.0 f.0 || ((e.0 == f.0) && nat_lt e.1 f.1)

-- ascending edges with e at its place; an edge that is there stays there once
abbrev pub insert_edge : Pair → List Pair → List Pair
insert_edge e [] = e ∷ []
insert_edge e (f ∷ fs) = cond (precedes e f) (e ∷ f ∷ fs) (cond (same_edge e f) (f ∷ fs) (f ∷ insert_edge e fs))

-- the edges without e
abbrev pub remove_edge : Pair → List Pair → List Pair
remove_edge e es = filter (λ f. not (same_edge e f)) es

-- the graph with the edge e
abbrev pub with_edge : GraphShape → Pair → GraphShape
with_edge g e = record { vertices = g.vertices; edges = insert_edge e g.edges }

-- the graph without the edge e
abbrev pub without_edge : GraphShape → Pair → GraphShape
without_edge g e = record { vertices = g.vertices; edges = remove_edge e g.edges }

-- the graph after the edges came in, one after another
abbrev pub with_edges : GraphShape → List Pair → GraphShape
with_edges g [] = g
with_edges g (e ∷ es) = with_edges (with_edge g e) es

-- the graph after the edges were taken out, one after another
abbrev pub without_edges : GraphShape → List Pair → GraphShape
without_edges g [] = g
without_edges g (e ∷ es) = without_edges (without_edge g e) es
