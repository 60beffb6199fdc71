-- What a walk over the sorted keys of a batch finds out is what the batch comes to.
use Rattle.std.proofs.Common.{ℕ, ◌+◌, ◌*◌, ◌^◌, ◌≤◌, ◌<◌, ◌≡◌, Bool, true, false, ◌||◌, ◌&&◌, cond, List, [], ◌∷◌, ◌++◌, length, refl, ap, sym, ◌∙◌, arith, map, append_assoc, get_or, zero-add}
use Rattle.std.proofs.lemmas.Bool.{cond_both}
use Rattle.std.proofs.lemmas.List.{append-nil, length-append, length-map, map-append}
use Rattle.std.proofs.lemmas.List.Elements.{All-nil, All-cons, All-head, All-tail, All-same, All-weaker}
use Rattle.std.proofs.lemmas.List.Sorted.{length_permutation, list_any-IsPermutation, sum_by-IsPermutation}
use Rattle.std.specs.List.{list_any}
use Rattle.std.specs.List.Sorted.{IsPermutation}
use Rattle.std.specs.Prelude.{All, not, count_by, filter, Option, Some, None}
use Rattle.std.proofs.lemmas.Bool.Decides.{nat_tests}
use Rattle.kc_graph.specs.declared.items.Item.{Item}
use Rattle.kc_graph.specs.declared.items.Item.TheVariants.{Insert, Delete, Isolate}
use Rattle.kc_graph.specs.declared.keys.Key.{Key}
use Rattle.kc_graph.specs.declared.cleaning.Cleaned.{Cleaned}
use Rattle.kc_graph.specs.Shape.{GraphShape, Pair, EdgesFrom, IsGraph, same_edge, has_edge}
use Rattle.kc_graph.specs.Cleaning.{IsInside, is_loop, proper_items, is_repeat, is_idle, count_with_later, deciding_item, takes_out, is_insertion, removed_edges, inserted_pairs, added_edges, cleaned}
use Rattle.kc_graph.specs.private.Keys.{is_pairless, is_isolation, pair_items, keys_of, same_pair, is_last_of_pair, repeated, IsKeyBelow, pair_number, packed, unpacked, number_of_pair}
use Rattle.kc_graph.specs.private.Walks.{no_effect, walked, followed, AreKeys, IsKeyInside, IsPairCut}
use Rattle.kc_graph.specs.private.Buckets.{dealt, IsDealtBy}
use Rattle.kc_graph.specs.Keys.{edge_of, removes, adds, decided}
use Rattle.kc_graph.proofs.CountLemmas.{count_by-cons}
use Rattle.kc_graph.proofs.EdgeLemmas.{not_before_first, same_edges}
use Rattle.kc_graph.proofs.EdgeListLemmas.{has_edge-filter, edges_from_filter}
use Rattle.kc_graph.proofs.BucketLemmas.{dealt_moves}
use Rattle.kc_graph.proofs.DealtLemmas.{All-dealt, climbs_dealt, climbs_level, climbs_other}
use Rattle.kc_graph.proofs.OrderLemmas.{dealt_map, dealt_agree}
use Rattle.kc_graph.specs.private.Digits.{Climbs}
use Rattle.kc_graph.proofs.DecidingLemmas.{deciding_keys, deciding_dealt}
use Rattle.kc_graph.proofs.KeyLemmas.{Ascend, ascend_from_climbs, is_last-sorted, edges_from_deciding, has_edge-edges_of, keys_inside, keys_below, inside_more, length-keys_of, pair_number_below, pair_of_packed, unpacked_all, pair_number-same, numbers_below}
use Rattle.kc_graph.proofs.BatchLemmas.{asks, inserted_if_decided, edges_from_inserted, keys_decide, keys_repeat, keys_idle}

-- a walk

-- what a walk over sorted keys adds to what is known
pub record Walks (edges : List Pair) (ks : List Key) (c d : Cleaned) : Type 0 where
  pub removed : d.removed ≡ c.removed ++ map edge_of (filter (removes edges) (deciding_keys ks))
  pub added : d.added ≡ c.added ++ map edge_of (filter (adds edges) (deciding_keys ks))
  pub loops : d.loops ≡ c.loops
  pub repeats : d.repeats + length (deciding_keys ks) ≡ c.repeats + length ks
  pub idle : d.idle ≡ c.idle + count_by (λ k. not (removes edges k || adds edges k)) (deciding_keys ks)

-- one more pair in front, if the key passes
pushed_first : (p : Key → Bool) (k : Key) (ks : List Key) (es : List Pair) → cond (p k) (es ++ edge_of k ∷ []) es ++ map edge_of (filter p ks) ≡ es ++ map edge_of (filter p (k ∷ ks))
pushed_first p k ks es = grind (arith, nat_tests, append_assoc)

pub walks : (edges : List Pair) (ks : List Key) (c : Cleaned) → Ascend ks → Walks edges ks c (walked edges ks c)
walks edges [] c up = record {
  removed = sym (append-nil c.removed);
  added = sym (append-nil c.added);
  loops = refl;
  repeats = refl;
  idle = omega arith;
}
walks edges (k ∷ ks) c up =
    rw (is_last-sorted k ks up) (go (list_any (same_pair k) ks) refl (walks edges ks (repeated c) up.1) (walks edges ks (decided edges k c) up.1))
  where
    go : (b : Bool) → list_any (same_pair k) ks ≡ b → Walks edges ks (repeated c) (walked edges ks (repeated c)) → Walks edges ks (decided edges k c) (walked edges ks (decided edges k c)) → Walks edges (k ∷ ks) c (walked edges ks (cond (not b) (decided edges k c) (repeated c)))
    go true again r d = record {
      removed = rw again r.removed;
      added = rw again r.added;
      loops = r.loops;
      repeats = rw again (omega (arith, r.repeats));
      idle = rw again r.idle;
    }
    go false last r d = record {
      removed = rw last (d.removed ∙ pushed_first (removes edges) k (deciding_keys ks) c.removed);
      added = rw last (d.added ∙ pushed_first (adds edges) k (deciding_keys ks) c.added);
      loops = d.loops;
      repeats = rw last (omega (arith, d.repeats));
      idle = rw last (d.idle ∙ idle_first (removes edges k || adds edges k) (count_by-cons (λ k. not (removes edges k || adds edges k)) k (deciding_keys ks)));
    }
      where
        idle_first : (t : Bool) → count_by (λ k. not (removes edges k || adds edges k)) (k ∷ deciding_keys ks) ≡ cond (not t) 1 0 + count_by (λ k. not (removes edges k || adds edges k)) (deciding_keys ks) → (c.idle + cond t 0 1) + count_by (λ k. not (removes edges k || adds edges k)) (deciding_keys ks) ≡ c.idle + count_by (λ k. not (removes edges k || adds edges k)) (k ∷ deciding_keys ks)
        idle_first true split = omega (arith, split)
        idle_first false split = omega (arith, split)

-- the keys of a batch, sorted

-- what sorted keys of a batch are to one who walks over them
record Sorts (n : ℕ) (items : List Item) (ks : List Key) : Type 0 where
  same : IsPermutation (keys_of items) ks
  decide : IsPermutation (deciding_keys (keys_of items)) (deciding_keys ks)
  ascend : Ascend ks
  inside : All (λ k. (k.a < k.b) × (k.b < n)) ks

deciding_below : (P : Key → Type 0) (ks : List Key) → All P ks → All P (deciding_keys ks)
deciding_below P [] h = All-nil P
deciding_below P (k ∷ ks) h =
    let rest = deciding_below P ks (All-tail P k ks h) in
    cond_both (list_any (same_pair k) ks) (deciding_keys ks) (k ∷ deciding_keys ks) (All P) (λ is. rest) (λ is. All-cons P k (deciding_keys ks) (All-head P k ks h) rest)

-- the keys of a batch, dealt by their pairs
sorts : (n bits : ℕ) (items : List Item) → n ≤ 2 ^ bits → All (IsInside n) items → Sorts n items (dealt (pair_number bits) (2 ^ bits * 2 ^ bits) (keys_of items))
sorts n bits items enough inside =
    let d = pair_number bits in
    let m = 2 ^ bits * 2 ^ bits in
    let ks = keys_of items in
    let below : All (IsKeyBelow (2 ^ bits)) ks = keys_below (2 ^ bits) items (All-weaker (IsInside n) (IsInside (2 ^ bits)) (inside_more n (2 ^ bits) enough) items inside) in
    let small : All (λ k. d k < m) ks = All-weaker (IsKeyBelow (2 ^ bits)) (λ k. d k < m) (pair_number_below bits) ks below in
    let climbs : Climbs (λ k. d k * 1 + 0) (dealt d m ks) = climbs_dealt d (λ k. 0) 1 m ks (λ i e h. omega arith) (climbs_level ks) in
    let below' : All (IsKeyBelow (2 ^ bits)) (dealt d m ks) = All-dealt (IsKeyBelow (2 ^ bits)) d m ks below in
    record {
      same = dealt_moves d m ks small;
      decide = rw (deciding_dealt d m (pair_number-same bits) ks) (dealt_moves d m (deciding_keys ks) (deciding_below (λ k. d k < m) ks small));
      ascend = ascend_from_climbs bits (dealt d m ks) below' (climbs_other (λ k. d k * 1 + 0) d (IsKeyBelow (2 ^ bits)) (λ k l p q h. omega (arith, h)) (dealt d m ks) below' climbs);
      inside = All-dealt (λ k. (k.a < k.b) × (k.b < n)) d m ks (keys_inside n items inside);
    }

pairs_ascend : (n : ℕ) (p : Key → Bool) (items : List Item) (ks : List Key) → Sorts n items ks → EdgesFrom n 0 0 (map edge_of (filter p (deciding_keys ks)))
pairs_ascend n p items ks s = edges_from_deciding n 0 0 p ks s.ascend s.inside (λ i d h. not_before_first (edge_of (get_or ks i d)))

-- a batch without isolations: its proper items are those of pairs

no_isolations : (items : List Item) → list_any is_isolation items ≡ false → (pair_items items ≡ proper_items items) × (count_by is_pairless items ≡ count_by is_loop items)
no_isolations [] none = (refl, refl)
no_isolations (Insert u v ∷ items) none =
    let rest = no_isolations items none in
    (rw rest.0 refl, count_by-cons is_pairless (Insert u v) items ∙ rw rest.1 (sym (count_by-cons is_loop (Insert u v) items)))
no_isolations (Delete u v ∷ items) none =
    let rest = no_isolations items none in
    (rw rest.0 refl, count_by-cons is_pairless (Delete u v) items ∙ rw rest.1 (sym (count_by-cons is_loop (Delete u v) items)))
no_isolations (Isolate v ∷ items) none = absurd (cc)

-- which pairs a walk finds
pairs_found : (n : ℕ) (q : Bool → Bool) (r : Pair → Bool) (items : List Item) (ks : List Key) → list_any is_isolation items ≡ false → Sorts n items ks → (e : Pair) → has_edge e (map edge_of (filter (λ k. q k.insert && r (edge_of k)) (deciding_keys ks))) ≡ (asks q (deciding_item e (proper_items items)) && r e)
pairs_found n q r items ks none s e =
    has_edge-edges_of e (λ k. q k.insert && r (edge_of k)) (deciding_keys ks)
    ∙ sym (list_any-IsPermutation (λ k. same_edge e (edge_of k) && (q k.insert && r (edge_of k))) (deciding_keys (keys_of items)) (deciding_keys ks) s.decide)
    ∙ keys_decide q r e items
    ∙ ap (λ (is : List Item). asks q (deciding_item e is) && r e) (no_isolations items none).0

asks_removal : (o : Option Item) → asks not o ≡ takes_out o
asks_removal None = refl
asks_removal (Some (Insert u v)) = refl
asks_removal (Some (Delete u v)) = refl
asks_removal (Some (Isolate v)) = refl

asks_insertion : (o : Option Item) → asks (λ b. b) o ≡ is_insertion o
asks_insertion None = refl
asks_insertion (Some (Insert u v)) = refl
asks_insertion (Some (Delete u v)) = refl
asks_insertion (Some (Isolate v)) = refl

removed_found : (g : GraphShape) (items : List Item) (ks : List Key) → list_any is_isolation items ≡ false → IsGraph g → Sorts g.vertices items ks → map edge_of (filter (removes g.edges) (deciding_keys ks)) ≡ removed_edges g.edges (proper_items items)
removed_found g items ks none graph s =
    same_edges g.vertices 0 0 (map edge_of (filter (removes g.edges) (deciding_keys ks))) (removed_edges g.edges (proper_items items))
    (pairs_ascend g.vertices (removes g.edges) items ks s) (edges_from_filter g.vertices 0 0 (λ e. takes_out (deciding_item e (proper_items items))) g.edges graph) same
  where
    same : (e : Pair) → has_edge e (map edge_of (filter (removes g.edges) (deciding_keys ks))) ≡ has_edge e (removed_edges g.edges (proper_items items))
    same e =
        pairs_found g.vertices not (λ f. has_edge f g.edges) items ks none s e
        ∙ ap (λ b. b && has_edge e g.edges) (asks_removal (deciding_item e (proper_items items)))
        ∙ sym (has_edge-filter e (λ e. takes_out (deciding_item e (proper_items items))) g.edges)

added_found : (g : GraphShape) (items : List Item) (ks : List Key) → list_any is_isolation items ≡ false → All (IsInside g.vertices) items → Sorts g.vertices items ks → map edge_of (filter (adds g.edges) (deciding_keys ks)) ≡ added_edges g.edges (proper_items items)
added_found g items ks plain inside s =
    same_edges g.vertices 0 0 (map edge_of (filter (adds g.edges) (deciding_keys ks))) (added_edges g.edges (proper_items items))
    (pairs_ascend g.vertices (adds g.edges) items ks s) (edges_from_filter g.vertices 0 0 (λ e. not (has_edge e g.edges) && is_insertion (deciding_item e (proper_items items))) (inserted_pairs (proper_items items)) (edges_from_inserted g.vertices items inside)) same
  where
    both_pass : (i h t : Bool) → (i ≡ true → t ≡ true) → (i && not h) ≡ ((not h && i) && t)
    both_pass true h t there = rw (there refl) (and_true (not h))
      where
        and_true : (b : Bool) → b ≡ ((b && true) && true)
        and_true true = refl
        and_true false = refl
    both_pass false h t there = neither (not h)
      where
        neither : (b : Bool) → false ≡ ((b && false) && t)
        neither true = refl
        neither false = refl

    same : (e : Pair) → has_edge e (map edge_of (filter (adds g.edges) (deciding_keys ks))) ≡ has_edge e (added_edges g.edges (proper_items items))
    same e =
        pairs_found g.vertices (λ b. b) (λ f. not (has_edge f g.edges)) items ks plain s e
        ∙ ap (λ b. b && not (has_edge e g.edges)) (asks_insertion (deciding_item e (proper_items items)))
        ∙ both_pass (is_insertion (deciding_item e (proper_items items))) (has_edge e g.edges) (has_edge e (inserted_pairs (proper_items items))) (inserted_if_decided e (proper_items items))
        ∙ sym (has_edge-filter e (λ e. not (has_edge e g.edges) && is_insertion (deciding_item e (proper_items items))) (inserted_pairs (proper_items items)))

pub same_cleaned : (c d : Cleaned) → c.removed ≡ d.removed → c.added ≡ d.added → c.loops ≡ d.loops → c.repeats ≡ d.repeats → c.idle ≡ d.idle → c ≡ d
same_cleaned c d removed added loops repeats idle = grind (arith, nat_tests)

-- the numbers of the keys of a batch, sorted, are those of its keys dealt by their pairs
pub sorted_numbers : (n bits : ℕ) (items : List Item) (xs : List ℕ) → n ≤ 2 ^ bits → All (IsInside n) items → IsDealtBy number_of_pair (map (packed bits) (keys_of items)) xs → map (unpacked bits) xs ≡ dealt (pair_number bits) (2 ^ bits * 2 ^ bits) (keys_of items)
sorted_numbers n bits items xs enough inside is =
    let m = 2 ^ bits * 2 ^ bits in
    let ks = keys_of items in
    let d : Key → ℕ = λ k. number_of_pair (packed bits k) in
    let below : All (IsKeyBelow (2 ^ bits)) ks = keys_below (2 ^ bits) items (All-weaker (IsInside n) (IsInside (2 ^ bits)) (inside_more n (2 ^ bits) enough) items inside) in
    ap (map (unpacked bits)) (is m (numbers_below bits ks below) ∙ dealt_map (packed bits) number_of_pair m ks)
    ∙ unpacked_all bits (dealt d m ks) (All-dealt (IsKeyBelow (2 ^ bits)) d m ks below)
    ∙ dealt_agree d (pair_number bits) m ks (λ i e h. pair_of_packed bits (get_or ks i e))

-- a walk over the sorted keys of a batch without isolations finds out what it comes to
pub walked_is_cleaned : (g : GraphShape) (bits : ℕ) (items : List Item) (ks : List Key) (loops : ℕ) → list_any is_isolation items ≡ false → IsGraph g → All (IsInside g.vertices) items → g.vertices ≤ 2 ^ bits → ks ≡ dealt (pair_number bits) (2 ^ bits * 2 ^ bits) (keys_of items) → loops + length ks ≡ length items → walked g.edges ks (record { removed = []; added = []; loops = loops; repeats = 0; idle = 0 }) ≡ cleaned g items
walked_is_cleaned g bits items ks loops none graph inside enough is rest =
    let s : Sorts g.vertices items ks = rw is (sorts g.vertices bits items enough inside) in
    let start : Cleaned = record { removed = []; added = []; loops = loops; repeats = 0; idle = 0 } in
    let w = walks g.edges ks start s.ascend in
    let idles : Key → Bool = λ k. not (removes g.edges k || adds g.edges k) in
    let long : length ks ≡ length (keys_of items) = length_permutation (keys_of items) ks s.same in
    let few : length (deciding_keys ks) ≡ length (deciding_keys (keys_of items)) = length_permutation (deciding_keys (keys_of items)) (deciding_keys ks) s.decide in
    let idle : count_by idles (deciding_keys (keys_of items)) ≡ count_by idles (deciding_keys ks) = sym (sum_by-IsPermutation (λ k. cond (idles k) 1 0) (deciding_keys (keys_of items)) (deciding_keys ks) s.decide) in
    let plain = no_isolations items none in
    let repeats = ap (count_with_later is_repeat) plain.0 in
    same_cleaned (walked g.edges ks start) (cleaned g items)
    (w.removed ∙ removed_found g items ks none graph s)
    (w.added ∙ added_found g items ks none inside s)
    (w.loops ∙ omega (arith, long, rest, length-keys_of items, plain.1))
    (omega (arith, w.repeats, long, few, repeats, keys_repeat items))
    (w.idle ∙ zero-add (count_by idles (deciding_keys ks)) ∙ sym idle ∙ keys_idle g.edges items ∙ ap (count_with_later (is_idle g.edges)) plain.0)

-- the loop that walks

walked_on : (edges : List Pair) (ks later : List Key) (k : Key) (c : Cleaned) (b : Bool) → ks ≡ k ∷ later → b ≡ is_last_of_pair k later → walked edges later (cond b (decided edges k c) (repeated c)) ≡ walked edges ks c
walked_on edges ks later k c b first is = ap (λ (t : Bool). walked edges later (cond t (decided edges k c) (repeated c))) is ∙ ap (λ (ls : List Key). walked edges ls c) (sym first)

pub walked_decided : (edges : List Pair) (ks later : List Key) (k : Key) (c d : Cleaned) → ks ≡ k ∷ later → true ≡ is_last_of_pair k later → d ≡ decided edges k c → walked edges later d ≡ walked edges ks c
walked_decided edges ks later k c d first last next = ap (λ (e : Cleaned). walked edges later e) next ∙ walked_on edges ks later k c true first last

pub walked_repeated : (edges : List Pair) (ks later : List Key) (k : Key) (c : Cleaned) → ks ≡ k ∷ later → false ≡ is_last_of_pair k later → walked edges later (repeated c) ≡ walked edges ks c
walked_repeated edges ks later k c first again = walked_on edges ks later k c false first again

pub first_inside : (n : ℕ) (ks later : List Key) (k : Key) → ks ≡ k ∷ later → All (IsKeyInside n) ks → IsKeyInside n k
first_inside n ks later k first inside = All-head (IsKeyInside n) k later (All-same (IsKeyInside n) (k ∷ later) ks (sym first) inside)

pub later_inside : (n : ℕ) (ks later : List Key) (k : Key) → ks ≡ k ∷ later → All (IsKeyInside n) ks → All (IsKeyInside n) later
later_inside n ks later k first inside = All-tail (IsKeyInside n) k later (All-same (IsKeyInside n) (k ∷ later) ks (sym first) inside)

pub decided_counts : (edges : List Pair) (k : Key) (c d : Cleaned) → d ≡ decided edges k c → (d.repeats ≡ c.repeats) × (d.idle ≤ c.idle + 1)
decided_counts edges k c d is = grind (arith, nat_tests)

-- a batch has no more keys than items
pub length_sorted : (n bits : ℕ) (items : List Item) (xs : List ℕ) → n ≤ 2 ^ bits → All (IsInside n) items → IsDealtBy number_of_pair (map (packed bits) (keys_of items)) xs → length xs ≤ length items
length_sorted n bits items xs enough inside is =
    let s = sorts n bits items enough inside in
    let ks = dealt (pair_number bits) (2 ^ bits * 2 ^ bits) (keys_of items) in
    omega (arith, sym (length-map xs (unpacked bits)) ∙ ap (λ (l : List Key). length l) (sorted_numbers n bits items xs enough inside is), length_permutation (keys_of items) ks s.same, length-keys_of items)

pub sorted_inside : (n bits : ℕ) (items : List Item) (xs : List ℕ) → n ≤ 2 ^ bits → All (IsInside n) items → IsDealtBy number_of_pair (map (packed bits) (keys_of items)) xs → All (IsKeyInside n) (map (unpacked bits) xs)
sorted_inside n bits items xs enough inside is = rw (sorted_numbers n bits items xs enough inside is) (sorts n bits items enough inside).inside

-- walks one after another

walked_loops : (edges : List Pair) (loops : ℕ) (ks : List Key) (c : Cleaned) → walked edges ks (record c { loops = loops }) ≡ record (walked edges ks c) { loops = loops }
walked_loops edges loops [] c = refl
walked_loops edges loops (k ∷ ks) c = grind (arith, nat_tests, walked_loops edges loops ks)

-- a walk that knows of loops
pub walked_with_loops : (edges : List Pair) (loops : ℕ) (ks : List Key) → walked edges ks (record { removed = []; added = []; loops = loops; repeats = 0; idle = 0 }) ≡ record (walked edges ks no_effect) { loops = loops }
walked_with_loops edges loops ks = walked_loops edges loops ks no_effect

-- a walk counts each key once at most
walked_counts : (edges : List Pair) (ks : List Key) (c : Cleaned) → ((walked edges ks c).repeats ≤ c.repeats + length ks) × ((walked edges ks c).idle ≤ c.idle + length ks)
walked_counts edges [] c = (omega arith, omega arith)
walked_counts edges (k ∷ ks) c = grind (arith, nat_tests, walked_counts edges ks, decided_counts)

pub walk_counts : (edges : List Pair) (ks : List Key) (c : Cleaned) → c ≡ walked edges ks no_effect → (c.repeats ≤ length ks) × (c.idle ≤ length ks)
walk_counts edges ks c is =
    let counts = walked_counts edges ks no_effect in
    rw is (omega (arith, counts.0), omega (arith, counts.1))

add_last : (b : Bool) (e : Pair) (es fs : List Pair) → cond b ((es ++ fs) ++ e ∷ []) (es ++ fs) ≡ es ++ cond b (fs ++ e ∷ []) fs
add_last true e es fs = append_assoc es fs (e ∷ [])
add_last false e es fs = refl

decided_after : (edges : List Pair) (k : Key) (c d : Cleaned) → decided edges k (followed c d) ≡ followed c (decided edges k d)
decided_after edges k c d = same_cleaned (decided edges k (followed c d)) (followed c (decided edges k d)) (add_last (removes edges k) (edge_of k) c.removed d.removed) (add_last (adds edges k) (edge_of k) c.added d.added) refl refl (omega arith)

repeated_after : (c d : Cleaned) → repeated (followed c d) ≡ followed c (repeated d)
repeated_after c d = same_cleaned (repeated (followed c d)) (followed c (repeated d)) refl refl refl (omega arith) refl

walked_after : (edges : List Pair) (ks : List Key) (c d : Cleaned) → walked edges ks (followed c d) ≡ followed c (walked edges ks d)
walked_after edges [] c d = refl
walked_after edges (k ∷ ks) c d = grind (arith, nat_tests, walked_after edges ks c, decided_after, repeated_after)

no_more : (c : Cleaned) → c ≡ followed c no_effect
no_more c = same_cleaned c (followed c no_effect) (sym (append-nil c.removed)) (sym (append-nil c.added)) (omega arith) (omega arith) (omega arith)

same_next : (a k : Key) (ks ls : List Key) → is_last_of_pair a (ks ++ k ∷ ls) ≡ is_last_of_pair a (ks ++ k ∷ [])
same_next a k [] ls = refl
same_next a k (l ∷ ks) ls = refl

walked_apart : (edges : List Pair) (front : List Key) (k : Key) (back : List Key) (c : Cleaned) → is_last_of_pair k back ≡ true → walked edges (front ++ k ∷ back) c ≡ walked edges back (walked edges (front ++ k ∷ []) c)
walked_apart edges [] k back c apart = ap (λ (b : Bool). walked edges back (cond b (decided edges k c) (repeated c))) apart
walked_apart edges (a ∷ front) k back c apart =
    ap (λ (b : Bool). walked edges (front ++ k ∷ back) (cond b (decided edges a c) (repeated c))) (same_next a k front back)
    ∙ walked_apart edges front k back (cond (is_last_of_pair a (front ++ k ∷ [])) (decided edges a c) (repeated c)) apart

-- a walk over keys that are cut where a pair ends
pub walked_in_parts : (edges : List Pair) (ks front back : List Key) (init : List Key) (k : Key) → ks ≡ front ++ back → front ≡ init ++ k ∷ [] → is_last_of_pair k back ≡ true → walked edges ks no_effect ≡ followed (walked edges front no_effect) (walked edges back no_effect)
walked_in_parts edges ks front back init k split last apart =
    ap (λ (ls : List Key). walked edges ls no_effect) (split ∙ ap (λ (ls : List Key). ls ++ back) last ∙ append_assoc init (k ∷ []) back)
    ∙ walked_apart edges init k back no_effect apart
    ∙ ap (λ (ls : List Key). walked edges back (walked edges ls no_effect)) (sym last)
    ∙ ap (λ (c : Cleaned). walked edges back c) (no_more (walked edges front no_effect))
    ∙ walked_after edges back (walked edges front no_effect) no_effect

module _ (edges : List Pair) (bits : ℕ) (xs front back : List ℕ) (at : IsPairCut xs front back) where
  all_parts : (P : Key → Type 0) (ks ls : List Key) → All P (ks ++ ls) → All P ks × All P ls
  all_parts P [] ls all = (All-nil P, all)
  all_parts P (k ∷ ks) ls all =
      let rest = all_parts P ks ls (All-tail P k (ks ++ ls) all) in
      (All-cons P k ks (All-head P k (ks ++ ls) all) rest.0, rest.1)

  keys_parts : map (unpacked bits) xs ≡ map (unpacked bits) front ++ map (unpacked bits) back
  keys_parts = ap (map (unpacked bits)) at.parts ∙ map-append (unpacked bits) front back

  parts_length : length front + length back ≡ length xs
  parts_length = sym (ap (λ (l : List ℕ). length l) at.parts ∙ length-append front back)

  -- both parts have such keys
  pub parts_are : (n : ℕ) → AreKeys n bits xs → AreKeys n bits front × AreKeys n bits back
  parts_are n are = grind (arith, nat_tests, all_parts, keys_parts, parts_length, are.inside, are.fits, are.small, are.few)

  module _ (c d : Cleaned) (first : c ≡ walked edges (map (unpacked bits) front) no_effect) (later : d ≡ walked edges (map (unpacked bits) back) no_effect) where
    -- the net effect of both parts
    pub parts_walked : followed c d ≡ walked edges (map (unpacked bits) xs) no_effect
    parts_walked = rw (first, later) (sym (walked_in_parts edges (map (unpacked bits) xs) (map (unpacked bits) front) (map (unpacked bits) back) (map (unpacked bits) at.init) (unpacked bits at.last) keys_parts (ap (map (unpacked bits)) at.ends ∙ map-append (unpacked bits) at.init (at.last ∷ [])) (at.apart bits)))

    no_loops : (e : Cleaned) (ks : List Key) → e ≡ walked edges ks no_effect → e.loops ≡ 0
    no_loops e ks is = ap (λ (f : Cleaned). f.loops) (is ∙ walked_with_loops edges 0 ks)

    pub parts_counts : (c.loops + d.loops ≡ 0) × (c.repeats + d.repeats ≤ length xs) × (c.idle + d.idle ≤ length xs)
    parts_counts =
        let m = walk_counts edges (map (unpacked bits) front) c first in
        let n = walk_counts edges (map (unpacked bits) back) d later in (
          omega (arith, no_loops c (map (unpacked bits) front) first, no_loops d (map (unpacked bits) back) later),
          omega (arith, m.0, n.0, parts_length, length-map front (unpacked bits), length-map back (unpacked bits)),
          omega (arith, m.1, n.1, parts_length, length-map front (unpacked bits), length-map back (unpacked bits)),
        )
