-- Laws of the definitions; each is the contract of a function in `laws`.
use Rattle.std.specs.Prelude.{ℕ, ◌≡◌, ◌<◌, ◌≤◌, Bool, ◌&&◌, List, [], length, count_by, All}
use Rattle.kc_graph.specs.declared.limits.TheConstants.{MAX_EDGES}
use Rattle.kc_graph.specs.Numbers.{has_number, count_below}
use Rattle.kc_graph.specs.Shape.{GraphShape, Pair, EdgesFrom, IsGraph, neighbours_of, has_edge, joined, with_edges, without_edges}
use Rattle.kc_graph.specs.Changes.{CanAdd}

-- a graph into which edges between its vertices come is a graph
abbrev pub InsertionsKeepGraph : Type 0
InsertionsKeepGraph = (g : GraphShape) (es : List Pair) → IsGraph g → All (λ e. (e.0 < e.1) × (e.1 < g.vertices)) es → IsGraph (with_edges g es)

-- a graph that edges leave is a graph
abbrev pub RemovalsKeepGraph : Type 0
RemovalsKeepGraph = (g : GraphShape) (es : List Pair) → IsGraph g → IsGraph (without_edges g es)

-- ascending edges that come into the graph without edges become its edges, and may come in if they are few enough
pub record AscendingEdgesFillEmptyGraph : Type 0 where
  pub fill : (n : ℕ) (es : List Pair) → EdgesFrom n 0 0 es → with_edges (record { vertices = n; edges = [] }) es ≡ record { vertices = n; edges = es }
  pub can_add : (n : ℕ) (es : List Pair) → EdgesFrom n 0 0 es → length es ≤ MAX_EDGES → CanAdd (record { vertices = n; edges = [] }) es

-- the neighbours of v are the vertices that share an edge with v, so counting over them is counting over all vertices
pub record NeighboursAreJoined : Type 0 where
  pub has : (v w : ℕ) (es : List Pair) → has_number w (neighbours_of v es) ≡ joined v w es
  pub count : (g : GraphShape) (v : ℕ) (p : ℕ → Bool) → IsGraph g → count_by p (neighbours_of v g.edges) ≡ count_below g.vertices (λ w. joined v w g.edges && p w)

-- two graphs with the same vertices and the same edges are one
abbrev pub GraphIsItsEdges : Type 0
GraphIsItsEdges = (g h : GraphShape) → IsGraph g → IsGraph h → g.vertices ≡ h.vertices → ((e : Pair) → has_edge e g.edges ≡ has_edge e h.edges) → g ≡ h
