-- Lemmas on what a batch comes to in a graph.
use Rattle.std.proofs.Common.{ℕ, ◌<◌, ◌≡◌, Bool, true, false, ◌||◌, ◌&&◌, List, [], ◌∷◌, refl, ap, sym, ◌∙◌, arith, subst}
use Rattle.std.proofs.lemmas.Bool.{and_parts, not-true}
use Rattle.std.proofs.lemmas.Bool.Decides.{nat_tests}
use Rattle.std.proofs.lemmas.List.Elements.{All-head, All-tail, All-weaker, All-filter, filter_passes}
use Rattle.std.specs.Prelude.{All, not, Option, Some, None}
use Rattle.kc_graph.specs.declared.items.Item.{Item}
use Rattle.kc_graph.specs.declared.items.Item.TheVariants.{Insert, Delete, Isolate}
use Rattle.kc_graph.specs.Shape.{GraphShape, Pair, EdgesFrom, IsGraph, has_edge, with_edges, without_edges}
use Rattle.kc_graph.specs.Changes.{AllAbsent, AllPresent}
use Rattle.kc_graph.specs.Cleaning.{IsInside, is_loop, proper_items, holds, is_touched, deciding_item, takes_out, is_insertion, inserted_pairs, added_edges, cleaned}
use Rattle.kc_graph.specs.CleaningLaws.{FitsGraph, after_item, after_items}
use Rattle.kc_graph.proofs.EdgeLemmas.{has_edge-insert_edge, has_edge-remove_edge, same_graph}
use Rattle.kc_graph.proofs.ChangeLemmas.{can_add_ascending, can_remove_ascending, vertices-with_edges, vertices-without_edges, has_edge-with_edges, has_edge-without_edges, length-without_edges, is_graph-with_edge, is_graph-without_edge, inside_from_ascending, is_graph-with_edges, is_graph-without_edges}
use Rattle.kc_graph.proofs.EdgeListLemmas.{has_edge-filter, edges_from_filter, all_there}
use Rattle.kc_graph.proofs.BatchLemmas.{deciding_none, inserted_if_decided, edges_from_inserted}

-- the lists fit the graph

removed_is_present : (g : GraphShape) (items : List Item) → AllPresent g (cleaned g items).removed
removed_is_present g items =
    All-filter (λ e. takes_out (deciding_item e (proper_items items))) (λ e. has_edge e g.edges ≡ true) g.edges (all_there g.edges (λ e. has_edge e g.edges ≡ true) (λ e h. h))

added_is_absent : (g : GraphShape) (items : List Item) → AllAbsent g (cleaned g items).added
added_is_absent g items =
    let p : Pair → Bool = λ e. not (has_edge e g.edges) && is_insertion (deciding_item e (proper_items items)) in
    All-weaker (λ e. p e ≡ true) (λ e. has_edge e g.edges ≡ false) (λ e h. not-true (has_edge e g.edges) (and_parts (not (has_edge e g.edges)) (is_insertion (deciding_item e (proper_items items))) h).0) (added_edges g.edges (proper_items items)) (filter_passes p (inserted_pairs (proper_items items)))

pub cleaned_fits_graph : (g : GraphShape) (items : List Item) → IsGraph g → All (IsInside g.vertices) items → FitsGraph g (cleaned g items)
cleaned_fits_graph g items graph inside =
    let c = cleaned g items in
    let down : EdgesFrom g.vertices 0 0 c.removed = edges_from_filter g.vertices 0 0 (λ e. takes_out (deciding_item e (proper_items items))) g.edges graph in
    let up : EdgesFrom g.vertices 0 0 c.added = edges_from_filter g.vertices 0 0 (λ e. not (has_edge e g.edges) && is_insertion (deciding_item e (proper_items items))) (inserted_pairs (proper_items items)) (edges_from_inserted g.vertices items inside) in
    let present = removed_is_present g items in
    let absent = added_is_absent g items in
    let can = can_remove_ascending g 0 0 c.removed down present in
    let left = length-without_edges g c.removed graph can in
    let later = All-weaker (λ e. has_edge e g.edges ≡ false) (λ e. has_edge e (without_edges g c.removed).edges ≡ false) (λ e h. has_edge-without_edges e g c.removed ∙ rw h (and_false (not (has_edge e c.removed)))) c.added absent in
    record {
      removed_ascend = down;
      removed_present = present;
      removed_fewer = omega (arith, left);
      added_ascend = up;
      added_absent = absent;
      added_absent_later = later;
      fewer_later = left;
      can_remove = can;
      can_add = λ room. can_add_ascending (without_edges g c.removed) 0 0 c.added
          (subst (λ (n : ℕ). EdgesFrom n 0 0 c.added) (sym (vertices-without_edges g c.removed)) up)
          later
          (omega (arith, left, room));
    }
  where
    and_false : (b : Bool) → (b && false) ≡ false
    and_false true = refl
    and_false false = refl

-- the lists lead to the graph to which the items lead

-- whether the edge is there after the item that decides on it, if there is one
abbrev outcome : Option Item → Bool → Bool
outcome None there = there
outcome (Some (Insert u v)) there = true
outcome (Some (Delete u v)) there = false
outcome (Some (Isolate v)) there = false

touched_outcome : (e : Pair) (items : List Item) (a b : Bool) → is_touched e items ≡ true → outcome (deciding_item e items) a ≡ outcome (deciding_item e items) b
touched_outcome e [] a b h = absurd (cc)
touched_outcome e (item ∷ items) a b h = grind (arith, nat_tests, touched_outcome e items a b)

-- whether the edge is there after an item that is no loop
after_first : (e : Pair) (item : Item) (items : List Item) (g : GraphShape) → is_loop item ≡ false → outcome (deciding_item e items) (has_edge e (after_item g item).edges) ≡ outcome (deciding_item e (item ∷ items)) (has_edge e g.edges)
after_first e item items g no_loop = grind (arith, nat_tests, has_edge-insert_edge, has_edge-remove_edge, has_edge-filter, touched_outcome, deciding_none)

has_edge-after_items : (e : Pair) (items : List Item) (g : GraphShape) → has_edge e (after_items g items).edges ≡ outcome (deciding_item e (proper_items items)) (has_edge e g.edges)
has_edge-after_items e [] g = refl
has_edge-after_items e (item ∷ items) g = grind (arith, nat_tests, has_edge-after_items e items (after_item g item), after_first)

after_item_is_graph : (g : GraphShape) (item : Item) → IsGraph g → IsInside g.vertices item → IsGraph (after_item g item)
after_item_is_graph g (Insert u v) graph inside = grind (arith, nat_tests, is_graph-with_edge, inside.0, inside.1)
after_item_is_graph g (Delete u v) graph inside = grind (arith, nat_tests, is_graph-without_edge)
after_item_is_graph g (Isolate v) graph inside = edges_from_filter g.vertices 0 0 (λ e. not (holds v e)) g.edges graph

vertices-after_item : (g : GraphShape) (item : Item) → (after_item g item).vertices ≡ g.vertices
vertices-after_item g (Insert u v) = grind (arith, nat_tests)
vertices-after_item g (Delete u v) = grind (arith, nat_tests)
vertices-after_item g (Isolate v) = refl

after_items_is_graph : (g : GraphShape) (items : List Item) → IsGraph g → All (IsInside g.vertices) items → IsGraph (after_items g items)
after_items_is_graph g [] graph inside = graph
after_items_is_graph g (item ∷ items) graph inside =
    after_items_is_graph (after_item g item) items (after_item_is_graph g item graph (All-head (IsInside g.vertices) item items inside))
    (subst (λ (n : ℕ). All (IsInside n) items) (sym (vertices-after_item g item)) (All-tail (IsInside g.vertices) item items inside))

vertices-after_items : (g : GraphShape) (items : List Item) → (after_items g items).vertices ≡ g.vertices
vertices-after_items g [] = refl
vertices-after_items g (item ∷ items) = vertices-after_items (after_item g item) items ∙ vertices-after_item g item

pub cleaned_leads_as_items : (g : GraphShape) (items : List Item) → IsGraph g → All (IsInside g.vertices) items → with_edges (without_edges g (cleaned g items).removed) (cleaned g items).added ≡ after_items g items
cleaned_leads_as_items g items graph inside =
    let c = cleaned g items in
    let left = without_edges g c.removed in
    let fits = cleaned_fits_graph g items graph inside in
    let size : (with_edges left c.added).vertices ≡ g.vertices = vertices-with_edges left c.added ∙ vertices-without_edges g c.removed in
    let added = subst (λ (n : ℕ). All (λ (e : Pair). (e.0 < e.1) × (e.1 < n)) c.added) (sym (vertices-without_edges g c.removed)) (inside_from_ascending g.vertices 0 0 c.added fits.added_ascend) in
    same_graph (with_edges left c.added) (after_items g items)
    (is_graph-with_edges left c.added (is_graph-without_edges g c.removed graph) added) (after_items_is_graph g items graph inside)
    (size ∙ sym (vertices-after_items g items))
    (λ e. has_edge-with_edges e left c.added ∙ ap (λ b. has_edge e c.added || b) (has_edge-without_edges e g c.removed) ∙ at e ∙ sym (has_edge-after_items e items g))
  where
    decide : (o : Option Item) (h t : Bool) → (is_insertion o ≡ true → t ≡ true) → (((not h && is_insertion o) && t) || (not (takes_out o && h) && h)) ≡ outcome o h
    decide None true t there = refl
    decide None false t there = refl
    decide (Some (Insert u v)) true t there = refl
    decide (Some (Insert u v)) false t there = rw (there refl) refl
    decide (Some (Delete u v)) true t there = refl
    decide (Some (Delete u v)) false t there = refl
    decide (Some (Isolate v)) true t there = refl
    decide (Some (Isolate v)) false t there = refl

    at : (e : Pair) → (has_edge e (cleaned g items).added || (not (has_edge e (cleaned g items).removed) && has_edge e g.edges)) ≡ outcome (deciding_item e (proper_items items)) (has_edge e g.edges)
    at e = grind (arith, nat_tests, has_edge-filter, decide, inserted_if_decided)
