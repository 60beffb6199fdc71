-- Cleaning: the net effect on a graph of the items of a batch, which ask one after another.
use Rattle.std.specs.Prelude.{ℕ, ◌+◌, ◌<◌, ◌==◌, nat_lt, Bool, false, true, not, ◌&&◌, ◌||◌, cond, List, [], ◌∷◌, Option, Some, None, filter, count_by}
use Rattle.std.specs.List.{list_any}
use Rattle.kc_graph.specs.declared.items.Item.{Item}
use Rattle.kc_graph.specs.declared.items.Item.TheVariants.{Insert, Delete, Isolate}
use Rattle.kc_graph.specs.declared.cleaning.Cleaned.{Cleaned}
use Rattle.kc_graph.specs.Shape.{GraphShape, Pair, same_edge, has_edge, insert_edge}

-- the vertices of the item are below n
abbrev pub IsInside : ℕ → Item → Type 0
IsInside n (Insert u v) = (u < n) × (v < n)
IsInside n (Delete u v) = (u < n) × (v < n)
IsInside n (Isolate v) = v < n

-- whether the item is an insertion or deletion between a vertex and itself
abbrev pub is_loop : Item → Bool
is_loop (Insert u v) = u == v
is_loop (Delete u v) = u == v
is_loop (Isolate v) = false

-- the items that are no loops
abbrev pub proper_items : List Item → List Item
proper_items items = filter (λ item. not (is_loop item)) items

-- the pair of u and v, the lesser first
abbrev pub pair_of : ℕ → ℕ → Pair
pair_of u v = cond (nat_lt u v) (u, v) (v, u)

-- whether v is one of the two vertices of the pair e
abbrev pub holds : ℕ → Pair → Bool
holds v e = (e.0 == v) || (e.1 == v)

-- whether the item touches the pair e: an insertion or deletion between its two vertices, in either order, or an
-- isolation of one of them
abbrev pub touches : Pair → Item → Bool
touches e (Insert u v) = same_edge e (pair_of u v)
touches e (Delete u v) = same_edge e (pair_of u v)
touches e (Isolate v) = holds v e

-- whether one of the items touches the pair e
abbrev pub is_touched : Pair → List Item → Bool
is_touched e items = list_any (touches e) items

-- the item that decides on the pair e, if there is one: the last that touches it
abbrev pub deciding_item : Pair → List Item → Option Item
deciding_item e [] = None
deciding_item e (item ∷ later) = cond (is_touched e later) (deciding_item e later) (cond (touches e item) (Some item) None)

-- whether an item decides on the pair and takes the edge out: a deletion or an isolation
abbrev pub takes_out : Option Item → Bool
takes_out None = false
takes_out (Some (Insert u v)) = false
takes_out (Some (Delete u v)) = true
takes_out (Some (Isolate v)) = true

-- whether an item decides on the pair and is an insertion
abbrev pub is_insertion : Option Item → Bool
is_insertion None = false
is_insertion (Some (Insert u v)) = true
is_insertion (Some (Delete u v)) = false
is_insertion (Some (Isolate v)) = false

-- the edges whose deciding item is a deletion or an isolation
abbrev pub removed_edges : List Pair → List Item → List Pair
removed_edges edges items = filter (λ e. takes_out (deciding_item e items)) edges

-- the pairs of the insertions, ascending
abbrev pub inserted_pairs : List Item → List Pair
inserted_pairs [] = []
inserted_pairs (Insert u v ∷ items) = insert_edge (pair_of u v) (inserted_pairs items)
inserted_pairs (Delete u v ∷ items) = inserted_pairs items
inserted_pairs (Isolate v ∷ items) = inserted_pairs items

-- the pairs that are no edges and whose deciding item is an insertion, ascending
abbrev pub added_edges : List Pair → List Item → List Pair
added_edges edges items = filter (λ e. not (has_edge e edges) && is_insertion (deciding_item e items)) (inserted_pairs items)

-- whether the item is an insertion or deletion whose pair a later item touches
abbrev pub is_repeat : Item → List Item → Bool
is_repeat (Insert u v) later = is_touched (pair_of u v) later
is_repeat (Delete u v) later = is_touched (pair_of u v) later
is_repeat (Isolate v) later = false

-- whether an isolation of v decides on an edge: on one at v that no later item touches
abbrev pub isolates_some : ℕ → List Pair → List Item → Bool
isolates_some v edges later = list_any (λ e. holds v e && not (is_touched e later)) edges

-- whether the item decides and changes nothing
--
-- It inserts an edge that is there, deletes one that isn't, or isolates a vertex and decides on no edge.
abbrev pub is_idle : List Pair → Item → List Item → Bool
is_idle edges (Insert u v) later = not (is_touched (pair_of u v) later) && has_edge (pair_of u v) edges
is_idle edges (Delete u v) later = not (is_touched (pair_of u v) later) && not (has_edge (pair_of u v) edges)
is_idle edges (Isolate v) later = not (isolates_some v edges later)

-- how many of the items pass a test of the item and of those after it
abbrev pub count_with_later : (Item → List Item → Bool) → List Item → ℕ
count_with_later p [] = 0
count_with_later p (item ∷ later) = cond (p item later) 1 0 + count_with_later p later

-- the net effect of the items: loops are set aside, and on each pair the last item that touches it decides
abbrev pub cleaned : GraphShape → List Item → Cleaned
cleaned g items =
    let proper = proper_items items in
    record {
      removed = removed_edges g.edges proper;
      added = added_edges g.edges proper;
      loops = count_by is_loop items;
      repeats = count_with_later is_repeat proper;
      idle = count_with_later (is_idle g.edges) proper;
    }
