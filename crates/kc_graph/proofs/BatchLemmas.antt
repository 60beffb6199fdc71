-- Lemmas on the items that decide on a pair, and on their keys.
use Rattle.std.proofs.Common.{ℕ, suc, ◌+◌, ◌≡◌, Bool, true, false, ◌||◌, ◌&&◌, cond, List, [], ◌∷◌, length, refl, ap, sym, ◌∙◌, arith, zero-add}
use Rattle.std.proofs.lemmas.Bool.{or_parts}
use Rattle.std.proofs.lemmas.Bool.Decides.{nat_tests}
use Rattle.std.proofs.lemmas.List.Elements.{All-head, All-tail}
use Rattle.std.specs.List.{list_any}
use Rattle.std.specs.Prelude.{All, not, count_by, Option, Some, None}
use Rattle.std.proofs.Math.Bool.{or-false}
use Rattle.kc_graph.specs.declared.items.Item.{Item}
use Rattle.kc_graph.specs.declared.items.Item.TheVariants.{Insert, Delete, Isolate}
use Rattle.kc_graph.specs.declared.keys.Key.{Key}
use Rattle.kc_graph.specs.Shape.{Pair, EdgesFrom, same_edge, has_edge}
use Rattle.kc_graph.specs.Cleaning.{IsInside, is_loop, proper_items, pair_of, touches, is_touched, deciding_item, is_insertion, inserted_pairs, is_repeat, is_idle, count_with_later}
use Rattle.kc_graph.specs.private.Keys.{is_pairless, pair_items, key_at, keys_of, same_pair}
use Rattle.kc_graph.specs.Keys.{edge_of, removes, adds}
use Rattle.kc_graph.proofs.CountLemmas.{count_by-cons}
use Rattle.kc_graph.proofs.EdgeLemmas.{not_before_first, has_edge-insert_edge, edges_from_insert}
use Rattle.kc_graph.proofs.EdgeListLemmas.{edge_is}
use Rattle.kc_graph.proofs.DecidingLemmas.{deciding_keys}

-- deciding items

pub deciding_none : (e : Pair) (items : List Item) → is_touched e items ≡ false → deciding_item e items ≡ None
deciding_none e [] none = refl
deciding_none e (item ∷ items) none =
    let parts = or_parts (touches e item) (is_touched e items) none in
    rw (parts.1, parts.0) refl

-- the pair that an insertion decides on is a pair of an insertion
pub inserted_if_decided : (e : Pair) (items : List Item) → is_insertion (deciding_item e items) ≡ true → has_edge e (inserted_pairs items) ≡ true
inserted_if_decided e [] h = absurd (cc)
inserted_if_decided e (Insert u v ∷ items) h = grind (arith, nat_tests, inserted_if_decided e items, has_edge-insert_edge)
inserted_if_decided e (Delete u v ∷ items) h = grind (arith, nat_tests, inserted_if_decided e items)
inserted_if_decided e (Isolate v ∷ items) h = grind (arith, nat_tests, inserted_if_decided e items)

pub edges_from_inserted : (n : ℕ) (items : List Item) → All (IsInside n) items → EdgesFrom n 0 0 (inserted_pairs (proper_items items))
edges_from_inserted n [] inside = tt
edges_from_inserted n (Insert u v ∷ items) inside = go (is_loop (Insert u v)) refl (edges_from_inserted n items (All-tail (IsInside n) (Insert u v) items inside)) (All-head (IsInside n) (Insert u v) items inside)
  where
    go : (b : Bool) → is_loop (Insert u v) ≡ b → EdgesFrom n 0 0 (inserted_pairs (proper_items items)) → IsInside n (Insert u v) → EdgesFrom n 0 0 (inserted_pairs (cond (not b) (Insert u v ∷ proper_items items) (proper_items items)))
    go true is rest inside = rest
    go false is rest inside =
        edges_from_insert n 0 0 (pair_of u v) (inserted_pairs (proper_items items)) (not_before_first (pair_of u v)) (grind (arith, nat_tests, is)) (grind (arith, nat_tests, inside.0, inside.1)) rest
edges_from_inserted n (Delete u v ∷ items) inside = go (is_loop (Delete u v)) (edges_from_inserted n items (All-tail (IsInside n) (Delete u v) items inside))
  where
    go : (b : Bool) → EdgesFrom n 0 0 (inserted_pairs (proper_items items)) → EdgesFrom n 0 0 (inserted_pairs (cond (not b) (Delete u v ∷ proper_items items) (proper_items items)))
    go true rest = rest
    go false rest = rest
edges_from_inserted n (Isolate v ∷ items) inside = edges_from_inserted n items (All-tail (IsInside n) (Isolate v) items inside)

-- keys and items

-- whether the item is an insertion
abbrev pub inserts : Item → Bool
inserts (Insert u v) = true
inserts (Delete u v) = false
inserts (Isolate v) = false

-- whether an item passes a test of whether it is an insertion
abbrev pub asks : (Bool → Bool) → Option Item → Bool
asks q None = false
asks q (Some item) = q (inserts item)

pub key_inserts : (item : Item) → (key_at item).insert ≡ inserts item
key_inserts (Insert u v) = refl
key_inserts (Delete u v) = refl
key_inserts (Isolate v) = refl

pub key_touches : (e : Pair) (item : Item) → is_pairless item ≡ false → same_edge e (edge_of (key_at item)) ≡ touches e item
key_touches e (Insert u v) paired = refl
key_touches e (Delete u v) paired = refl
key_touches e (Isolate v) paired = absurd (cc)

pub key_repeats : (item : Item) (later : List Item) → is_pairless item ≡ false → is_touched (edge_of (key_at item)) later ≡ is_repeat item later
key_repeats (Insert u v) later paired = refl
key_repeats (Delete u v) later paired = refl
key_repeats (Isolate v) later paired = absurd (cc)

-- whether a key that decides is idle
pub key_is_idle : (edges : List Pair) (item : Item) (later : List Item) → is_pairless item ≡ false → is_idle edges item later ≡ not (is_touched (edge_of (key_at item)) later) && not (removes edges (key_at item) || adds edges (key_at item))
key_is_idle edges (Insert u v) later paired = grind (arith, nat_tests)
key_is_idle edges (Delete u v) later paired = grind (arith, nat_tests)
key_is_idle edges (Isolate v) later paired = absurd (cc)

-- the keys of a batch touch the pairs that its items touch
pub keys_touch : (e : Pair) (items : List Item) → list_any (λ k. same_edge e (edge_of k)) (keys_of items) ≡ is_touched e (pair_items items)
keys_touch e [] = refl
keys_touch e (item ∷ items) = grind (arith, nat_tests, keys_touch e items, key_touches)

-- what the item that decides on e passes is what a key of e that decides on its pair passes:
-- a test of whether it is an insertion, and one of e
abbrev pub DecideAlike : (Bool → Bool) → (Pair → Bool) → Pair → List Key → List Item → Type 0
DecideAlike q r e ks items =
    list_any (λ k. same_edge e (edge_of k) && (q k.insert && r (edge_of k))) (deciding_keys ks) ≡ (asks q (deciding_item e items) && r e)

decided_later : (e : Pair) (items : List Item) → cond (is_touched e items) (deciding_item e items) None ≡ deciding_item e items
decided_later e items = grind (arith, nat_tests, deciding_none)

-- one more item, in front
alike_more : (q : Bool → Bool) (r : Pair → Bool) (e : Pair) (item : Item) (ks : List Key) (items : List Item) → ((f : Pair) → list_any (λ k. same_edge f (edge_of k)) ks ≡ is_touched f items) → is_pairless item ≡ false → DecideAlike q r e ks items → DecideAlike q r e (key_at item ∷ ks) (item ∷ items)
alike_more q r e item ks items touched paired rest =
    go (list_any (same_pair (key_at item)) ks) refl (touches e item) refl
  where
    go : (a : Bool) → list_any (same_pair (key_at item)) ks ≡ a → (t : Bool) → touches e item ≡ t → list_any (λ k. same_edge e (edge_of k) && (q k.insert && r (edge_of k))) (cond a (deciding_keys ks) (key_at item ∷ deciding_keys ks)) ≡ (asks q (cond (is_touched e items) (deciding_item e items) (cond t (Some item) None)) && r e)
    go true again true here =
        let same : e ≡ edge_of (key_at item) = edge_is e (edge_of (key_at item)) (key_touches e item paired ∙ here) in
        let later : is_touched e items ≡ true = ap (λ f. is_touched f items) same ∙ sym (touched (edge_of (key_at item))) ∙ again in
        rw later rest
    go false last true here =
        let same : e ≡ edge_of (key_at item) = edge_is e (edge_of (key_at item)) (key_touches e item paired ∙ here) in
        let none : is_touched e items ≡ false = ap (λ f. is_touched f items) same ∙ sym (touched (edge_of (key_at item))) ∙ last in
        let nothing : list_any (λ k. same_edge e (edge_of k) && (q k.insert && r (edge_of k))) (deciding_keys ks) ≡ false = rest ∙ ap (λ (o : Option Item). asks q o && r e) (deciding_none e items none) in
        rw (none, key_touches e item paired, here, nothing, or-false (q (key_at item).insert && r (edge_of (key_at item))), key_inserts item, ← same) refl
    go true again false other = rw (decided_later e items) rest
    go false last false other = rw (decided_later e items, key_touches e item paired, other) rest

pub keys_decide : (q : Bool → Bool) (r : Pair → Bool) (e : Pair) (items : List Item) → DecideAlike q r e (keys_of items) (pair_items items)
keys_decide q r e [] = refl
keys_decide q r e (item ∷ items) = grind (arith, nat_tests, keys_decide q r e items, alike_more, keys_touch)

-- the items that don't decide are the keys that don't
pub keys_repeat : (items : List Item) → count_with_later is_repeat (pair_items items) + length (deciding_keys (keys_of items)) ≡ length (keys_of items)
keys_repeat [] = refl
keys_repeat (item ∷ items) = go (is_pairless item) refl (keys_repeat items)
  where
    go : (b : Bool) → is_pairless item ≡ b → count_with_later is_repeat (pair_items items) + length (deciding_keys (keys_of items)) ≡ length (keys_of items) → count_with_later is_repeat (cond (not b) (item ∷ pair_items items) (pair_items items)) + length (deciding_keys (cond b (keys_of items) (key_at item ∷ keys_of items))) ≡ length (cond b (keys_of items) (key_at item ∷ keys_of items))
    go true is rest = rest
    go false is rest =
        let touched = keys_touch (edge_of (key_at item)) items ∙ key_repeats item (pair_items items) is in
        rw (← touched) (at (list_any (same_pair (key_at item)) (keys_of items)))
      where
        at : (t : Bool) → (cond t 1 0 + count_with_later is_repeat (pair_items items)) + length (cond t (deciding_keys (keys_of items)) (key_at item ∷ deciding_keys (keys_of items))) ≡ suc (length (keys_of items))
        at true = omega arith
        at false = omega arith

-- the idle items are the deciding keys that neither remove nor add
pub keys_idle : (edges : List Pair) (items : List Item) → count_by (λ k. not (removes edges k || adds edges k)) (deciding_keys (keys_of items)) ≡ count_with_later (is_idle edges) (pair_items items)
keys_idle edges [] = refl
keys_idle edges (item ∷ items) = go (is_pairless item) refl (keys_idle edges items)
  where
    go : (b : Bool) → is_pairless item ≡ b → count_by (λ k. not (removes edges k || adds edges k)) (deciding_keys (keys_of items)) ≡ count_with_later (is_idle edges) (pair_items items) → count_by (λ k. not (removes edges k || adds edges k)) (deciding_keys (cond b (keys_of items) (key_at item ∷ keys_of items))) ≡ count_with_later (is_idle edges) (cond (not b) (item ∷ pair_items items) (pair_items items))
    go true is rest = rest
    go false is rest =
        let touched = keys_touch (edge_of (key_at item)) items in
        rw (key_is_idle edges item (pair_items items) is, ← touched) (at (list_any (same_pair (key_at item)) (keys_of items)))
      where
        at : (t : Bool) → count_by (λ k. not (removes edges k || adds edges k)) (cond t (deciding_keys (keys_of items)) (key_at item ∷ deciding_keys (keys_of items))) ≡ cond (not t && not (removes edges (key_at item) || adds edges (key_at item))) 1 0 + count_with_later (is_idle edges) (pair_items items)
        at true = rest ∙ sym (zero-add (count_with_later (is_idle edges) (pair_items items)))
        at false =
            count_by-cons (λ k. not (removes edges k || adds edges k)) (key_at item) (deciding_keys (keys_of items))
            ∙ rw rest refl
