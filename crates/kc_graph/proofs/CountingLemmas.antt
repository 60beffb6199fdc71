-- Each item of a batch counts once.
use Rattle.std.proofs.Common.{ℕ, suc, ◌+◌, ◌≡◌, Bool, true, false, ◌||◌, ◌&&◌, cond, List, [], ◌∷◌, length, refl, ap, sym, ◌∙◌, arith, zero-add}
use Rattle.std.proofs.lemmas.Bool.Decides.{nat_tests}
use Rattle.std.proofs.lemmas.List.Elements.{All-head, All-tail}
use Rattle.std.specs.Prelude.{All, not, filter, count_by, Option, Some}
use Rattle.kc_graph.specs.declared.items.Item.{Item}
use Rattle.kc_graph.specs.declared.items.Item.TheVariants.{Insert, Delete, Isolate}
use Rattle.kc_graph.specs.Shape.{GraphShape, Pair, EdgesFrom, IsGraph, has_edge, insert_edge}
use Rattle.kc_graph.specs.Cleaning.{IsInside, is_loop, proper_items, pair_of, touches, is_touched, deciding_item, is_insertion, inserted_pairs, added_edges, is_repeat, isolates_some, is_idle, count_with_later, cleaned}
use Rattle.kc_graph.specs.CleaningLaws.{takes_some_out}
use Rattle.kc_graph.proofs.EdgeLemmas.{not_before_first, has_edge-insert_edge, edges_from_insert, length-insert_edge, same_edges}
use Rattle.kc_graph.proofs.EdgeListLemmas.{edge_is, edges_from_filter}
use Rattle.kc_graph.proofs.BatchLemmas.{deciding_none, edges_from_inserted}
use Rattle.kc_graph.proofs.LaterLemmas.{count_first, count_other, decides_as_later, in_added}

-- whether the item decides on a pair that it adds
abbrev adds_one : List Pair → Item → List Item → Bool
adds_one edges (Insert u v) later = not (is_touched (pair_of u v) later) && not (has_edge (pair_of u v) edges)
adds_one edges (Delete u v) later = false
adds_one edges (Isolate v) later = false

four_tests : (t h : Bool) → cond t 1 0 + cond (not t && h) 1 0 + cond (not t && not h) 1 0 ≡ 1
four_tests true h = refl
four_tests false true = refl
four_tests false false = refl

two_tests : (b : Bool) → cond (not b) 1 0 + cond b 1 0 ≡ 1
two_tests true = refl
two_tests false = refl

-- an item that is no loop is one of four
proper_counts_once : (edges : List Pair) (item : Item) (later : List Item) → cond (is_repeat item later) 1 0 + cond (is_idle edges item later) 1 0 + cond (takes_some_out edges item later) 1 0 + cond (adds_one edges item later) 1 0 ≡ 1
proper_counts_once edges (Insert u v) later = omega (arith, four_tests (is_touched (pair_of u v) later) (has_edge (pair_of u v) edges))
proper_counts_once edges (Delete u v) later = omega (arith, four_tests (is_touched (pair_of u v) later) (has_edge (pair_of u v) edges))
proper_counts_once edges (Isolate v) later = omega (arith, two_tests (isolates_some v edges later))

counts_once : (edges : List Pair) (items : List Item) → count_by is_loop items + count_with_later is_repeat (proper_items items) + count_with_later (is_idle edges) (proper_items items) + count_with_later (takes_some_out edges) (proper_items items) + count_with_later (adds_one edges) (proper_items items) ≡ length items
counts_once edges [] = refl
counts_once edges (item ∷ items) = go (is_loop item) refl (counts_once edges items)
  where
    go : (b : Bool) → is_loop item ≡ b → count_by is_loop items + count_with_later is_repeat (proper_items items) + count_with_later (is_idle edges) (proper_items items) + count_with_later (takes_some_out edges) (proper_items items) + count_with_later (adds_one edges) (proper_items items) ≡ length items → count_by is_loop (item ∷ items) + count_with_later is_repeat (cond (not b) (item ∷ proper_items items) (proper_items items)) + count_with_later (is_idle edges) (cond (not b) (item ∷ proper_items items) (proper_items items)) + count_with_later (takes_some_out edges) (cond (not b) (item ∷ proper_items items) (proper_items items)) + count_with_later (adds_one edges) (cond (not b) (item ∷ proper_items items) (proper_items items)) ≡ suc (length items)
    go true loop rest = omega (arith, count_first is_loop item items loop)
    go false proper rest = omega (arith, count_other is_loop item items proper, proper_counts_once edges item (proper_items items))

-- the pairs added are as many as the items that add one

filter_agree : (p q : Pair → Bool) (es : List Pair) → ((e : Pair) → p e ≡ q e) → filter p es ≡ filter q es
filter_agree p q [] same = refl
filter_agree p q (e ∷ es) same = rw (same e, filter_agree p q es same) refl

-- an item that inserts nothing decides on no insertion
no_insertion : (item : Item) (items : List Item) → is_insertion (Some item) ≡ false → (e : Pair) → is_insertion (deciding_item e (item ∷ items)) ≡ is_insertion (deciding_item e items)
no_insertion item items none e = grind (arith, nat_tests, deciding_none)

ascend_added : (n : ℕ) (edges : List Pair) (items : List Item) → All (IsInside n) items → EdgesFrom n 0 0 (added_edges edges (proper_items items))
ascend_added n edges items inside = edges_from_filter n 0 0 (λ e. not (has_edge e edges) && is_insertion (deciding_item e (proper_items items))) (inserted_pairs (proper_items items)) (edges_from_inserted n items inside)

-- an insertion puts its pair in front of those added, or adds none
insertion_adds : (n : ℕ) (edges : List Pair) (u v : ℕ) (items : List Item) → All (IsInside n) (Insert u v ∷ items) → is_loop (Insert u v) ≡ false → length (added_edges edges (Insert u v ∷ proper_items items)) ≡ cond (adds_one edges (Insert u v) (proper_items items)) 1 0 + length (added_edges edges (proper_items items))
insertion_adds n edges u v items inside proper = go (is_touched (pair_of u v) (proper_items items)) refl (has_edge (pair_of u v) edges) refl
  where
    up : EdgesFrom n 0 0 (added_edges edges (Insert u v ∷ proper_items items))
    up = rw proper at (ascend_added n edges (Insert u v ∷ items) inside)

    rest : EdgesFrom n 0 0 (added_edges edges (proper_items items))
    rest = ascend_added n edges items (All-tail (IsInside n) (Insert u v) items inside)

    within : IsInside n (Insert u v)
    within = All-head (IsInside n) (Insert u v) items inside

    none_more : ((e : Pair) → has_edge e (added_edges edges (Insert u v ∷ proper_items items)) ≡ has_edge e (added_edges edges (proper_items items))) → length (added_edges edges (Insert u v ∷ proper_items items)) ≡ 0 + length (added_edges edges (proper_items items))
    none_more same = ap length (same_edges n 0 0 (added_edges edges (Insert u v ∷ proper_items items)) (added_edges edges (proper_items items)) up rest same) ∙ sym (zero-add (length (added_edges edges (proper_items items))))

    is_it : (e : Pair) → touches e (Insert u v) ≡ true → e ≡ pair_of u v
    is_it e here = edge_is e (pair_of u v) here

    as_later : (e : Pair) → (is_touched e (proper_items items) ≡ false → touches e (Insert u v) ≡ false) → has_edge e (added_edges edges (Insert u v ∷ proper_items items)) ≡ has_edge e (added_edges edges (proper_items items))
    as_later e none =
        sym (in_added edges (Insert u v ∷ proper_items items) e)
        ∙ ap (λ (o : Option Item). is_insertion o && not (has_edge e edges)) (decides_as_later e (Insert u v) (proper_items items) none)
        ∙ in_added edges (proper_items items) e

    decided_here : (e : Pair) → touches e (Insert u v) ≡ true → is_touched (pair_of u v) (proper_items items) ≡ false → has_edge e (added_edges edges (Insert u v ∷ proper_items items)) ≡ not (has_edge (pair_of u v) edges)
    decided_here e here none =
        sym (in_added edges (Insert u v ∷ proper_items items) e)
        ∙ rw (ap (λ f. is_touched f (proper_items items)) (is_it e here) ∙ none, here, is_it e here) refl

    absent : (e : Pair) → is_touched e (proper_items items) ≡ false → has_edge e (added_edges edges (proper_items items)) ≡ false
    absent e none = sym (in_added edges (proper_items items) e) ∙ ap (λ (o : Option Item). is_insertion o && not (has_edge e edges)) (deciding_none e (proper_items items) none)

    repeats : (e : Pair) (t : Bool) → touches e (Insert u v) ≡ t → is_touched (pair_of u v) (proper_items items) ≡ true → is_touched e (proper_items items) ≡ false → t ≡ false
    repeats e true here again none = sym again ∙ sym (ap (λ f. is_touched f (proper_items items)) (is_it e here)) ∙ none
    repeats e false here again none = refl

    present : (e : Pair) (t : Bool) → touches e (Insert u v) ≡ t → is_touched (pair_of u v) (proper_items items) ≡ false → has_edge (pair_of u v) edges ≡ true → has_edge e (added_edges edges (Insert u v ∷ proper_items items)) ≡ has_edge e (added_edges edges (proper_items items))
    present e true here none there = decided_here e here none ∙ ap not there ∙ sym (absent e (ap (λ f. is_touched f (proper_items items)) (is_it e here) ∙ none))
    present e false other none there = as_later e (λ h. other)

    adds : (e : Pair) (t : Bool) → touches e (Insert u v) ≡ t → is_touched (pair_of u v) (proper_items items) ≡ false → has_edge (pair_of u v) edges ≡ false → has_edge e (added_edges edges (Insert u v ∷ proper_items items)) ≡ (t || has_edge e (added_edges edges (proper_items items)))
    adds e true here none new = decided_here e here none ∙ ap not new
    adds e false other none new = as_later e (λ h. other)

    go : (t : Bool) → is_touched (pair_of u v) (proper_items items) ≡ t → (h : Bool) → has_edge (pair_of u v) edges ≡ h → length (added_edges edges (Insert u v ∷ proper_items items)) ≡ cond (not t && not h) 1 0 + length (added_edges edges (proper_items items))
    go true again h there = none_more (λ e. as_later e (repeats e (touches e (Insert u v)) refl again))
    go false none true there = none_more (λ e. present e (touches e (Insert u v)) refl none there)
    go false none false new =
        let one_more = edges_from_insert n 0 0 (pair_of u v) (added_edges edges (proper_items items)) (not_before_first (pair_of u v)) (grind (arith, nat_tests, proper)) (grind (arith, nat_tests, within.0, within.1)) rest in
        let same = same_edges n 0 0 (added_edges edges (Insert u v ∷ proper_items items)) (insert_edge (pair_of u v) (added_edges edges (proper_items items))) up one_more
        (λ e. adds e (touches e (Insert u v)) refl none new ∙ sym (has_edge-insert_edge (pair_of u v) e (added_edges edges (proper_items items)))) in
        omega (arith, ap length same, length-insert_edge (pair_of u v) (added_edges edges (proper_items items)) (absent (pair_of u v) none))

item_adds : (n : ℕ) (edges : List Pair) (item : Item) (items : List Item) → All (IsInside n) (item ∷ items) → is_loop item ≡ false → length (added_edges edges (item ∷ proper_items items)) ≡ cond (adds_one edges item (proper_items items)) 1 0 + length (added_edges edges (proper_items items))
item_adds n edges (Insert u v) items inside proper = insertion_adds n edges u v items inside proper
item_adds n edges (Delete u v) items inside proper =
    ap length (filter_agree (λ e. not (has_edge e edges) && is_insertion (deciding_item e (Delete u v ∷ proper_items items))) (λ e. not (has_edge e edges) && is_insertion (deciding_item e (proper_items items))) (inserted_pairs (proper_items items)) (λ e. ap (λ b. not (has_edge e edges) && b) (no_insertion (Delete u v) (proper_items items) refl e)))
    ∙ sym (zero-add (length (added_edges edges (proper_items items))))
item_adds n edges (Isolate v) items inside proper =
    ap length (filter_agree (λ e. not (has_edge e edges) && is_insertion (deciding_item e (Isolate v ∷ proper_items items))) (λ e. not (has_edge e edges) && is_insertion (deciding_item e (proper_items items))) (inserted_pairs (proper_items items)) (λ e. ap (λ b. not (has_edge e edges) && b) (no_insertion (Isolate v) (proper_items items) refl e)))
    ∙ sym (zero-add (length (added_edges edges (proper_items items))))

length-added : (n : ℕ) (edges : List Pair) (items : List Item) → All (IsInside n) items → length (added_edges edges (proper_items items)) ≡ count_with_later (adds_one edges) (proper_items items)
length-added n edges [] inside = refl
length-added n edges (item ∷ items) inside = go (is_loop item) refl (item_adds n edges item items inside) (length-added n edges items (All-tail (IsInside n) item items inside))
  where
    go : (b : Bool) → is_loop item ≡ b → (is_loop item ≡ false → length (added_edges edges (item ∷ proper_items items)) ≡ cond (adds_one edges item (proper_items items)) 1 0 + length (added_edges edges (proper_items items))) → length (added_edges edges (proper_items items)) ≡ count_with_later (adds_one edges) (proper_items items) → length (added_edges edges (cond (not b) (item ∷ proper_items items) (proper_items items))) ≡ count_with_later (adds_one edges) (cond (not b) (item ∷ proper_items items) (proper_items items))
    go true loop more rest = rest
    go false proper more rest = more proper ∙ ap (λ m. cond (adds_one edges item (proper_items items)) 1 0 + m) rest

pub each_item_counts_once : (g : GraphShape) (items : List Item) → IsGraph g → All (IsInside g.vertices) items → (cleaned g items).loops + (cleaned g items).repeats + (cleaned g items).idle + count_with_later (takes_some_out g.edges) (proper_items items) + length (cleaned g items).added ≡ length items
each_item_counts_once g items graph inside = omega (arith, counts_once g.edges items, length-added g.vertices g.edges items inside)
