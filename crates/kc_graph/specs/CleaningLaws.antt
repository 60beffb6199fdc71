-- Laws of cleaning; each is the contract of a function in `laws`.
use Rattle.std.specs.Prelude.{ℕ, ◌≡◌, ◌+◌, ◌-◌, ◌≤◌, ◌==◌, Bool, false, not, ◌&&◌, cond, List, [], ◌∷◌, length, filter, All}
use Rattle.kc_graph.specs.declared.cleaning.Cleaned.{Cleaned}
use Rattle.kc_graph.specs.declared.items.Item.{Item}
use Rattle.kc_graph.specs.declared.items.Item.TheVariants.{Insert, Delete, Isolate}
use Rattle.kc_graph.specs.declared.limits.TheConstants.{MAX_EDGES}
use Rattle.kc_graph.specs.Shape.{GraphShape, Pair, EdgesFrom, IsGraph, has_edge, with_edge, without_edge, with_edges, without_edges}
use Rattle.kc_graph.specs.Changes.{CanAdd, CanRemove, AllAbsent, AllPresent}
use Rattle.kc_graph.specs.Cleaning.{IsInside, holds, pair_of, proper_items, is_touched, isolates_some, count_with_later, cleaned}

-- the edges removed are in the graph, and those added are not
--
-- Both lists ascend, each edge once. The removed ones may leave, and then the added ones may come in.
pub record FitsGraph (g : GraphShape) (c : Cleaned) : Type 0 where
  pub removed_ascend : EdgesFrom g.vertices 0 0 c.removed
  pub removed_present : AllPresent g c.removed
  pub removed_fewer : length c.removed ≤ length g.edges
  pub added_ascend : EdgesFrom g.vertices 0 0 c.added
  pub added_absent : AllAbsent g c.added
  pub can_remove : CanRemove g c.removed
  pub added_absent_later : AllAbsent (without_edges g c.removed) c.added
  pub fewer_later : length (without_edges g c.removed).edges + length c.removed ≡ length g.edges
  pub can_add : length g.edges - length c.removed + length c.added ≤ MAX_EDGES → CanAdd (without_edges g c.removed) c.added

-- the net effect of a batch fits the graph
abbrev pub CleanedFitsGraph : Type 0
CleanedFitsGraph = (g : GraphShape) (items : List Item) → IsGraph g → All (IsInside g.vertices) items → FitsGraph g (cleaned g items)

-- the graph without the edges at v
abbrev pub without_edges_at : ℕ → GraphShape → GraphShape
without_edges_at v g = record { vertices = g.vertices; edges = filter (λ e. not (holds v e)) g.edges }

-- the graph after an item
--
-- A loop changes nothing. Neither does an insertion of an edge that is there, a deletion of one that isn't, or an
-- isolation of a vertex without edges.
abbrev pub after_item : GraphShape → Item → GraphShape
after_item g (Insert u v) = cond (u == v) g (with_edge g (pair_of u v))
after_item g (Delete u v) = cond (u == v) g (without_edge g (pair_of u v))
after_item g (Isolate v) = without_edges_at v g

-- the graph after the items, one after another
abbrev pub after_items : GraphShape → List Item → GraphShape
after_items g [] = g
after_items g (item ∷ later) = after_items (after_item g item) later

-- the edges removed and added lead to the same graph as the items, one after another
abbrev pub CleanedLeadsAsItems : Type 0
CleanedLeadsAsItems = (g : GraphShape) (items : List Item) → IsGraph g → All (IsInside g.vertices) items → with_edges (without_edges g (cleaned g items).removed) (cleaned g items).added ≡ after_items g items

-- whether the item decides on an edge that it takes out
abbrev pub takes_some_out : List Pair → Item → List Item → Bool
takes_some_out edges (Insert u v) later = false
takes_some_out edges (Delete u v) later = not (is_touched (pair_of u v) later) && has_edge (pair_of u v) edges
takes_some_out edges (Isolate v) later = isolates_some v edges later

-- each item is a loop, a repeat, idle, one that takes edges out, or the one that adds an edge
abbrev pub EachItemCountsOnce : Type 0
EachItemCountsOnce =
    (g : GraphShape) (items : List Item) → IsGraph g → All (IsInside g.vertices) items
    → let c = cleaned g items in
    c.loops + c.repeats + c.idle + count_with_later (takes_some_out g.edges) (proper_items items) + length c.added ≡ length items
