-- Lemmas on a walk from the last item of a batch to its first.
use Rattle.std.proofs.Common.{ℕ, suc, ◌+◌, ◌≤◌, ◌<◌, ◌≡◌, ◌≢◌, Bool, true, false, ◌||◌, ◌&&◌, cond, eqb, List, [], ◌∷◌, ◌++◌, length, get_or, refl, ap, sym, ◌∙◌, arith, subst, zero-add, length-append}
use Rattle.std.proofs.lemmas.Bool.{and_parts, not-true}
use Rattle.std.proofs.lemmas.Bool.Decides.{nat_tests}
use Rattle.std.proofs.lemmas.List.Elements.{All-nil, All-cons, All-head, All-tail, All-weaker}
use Rattle.std.proofs.lemmas.List.{append-nil}
use Rattle.std.proofs.lemmas.List.Folds.{list_any_none}
use Rattle.std.proofs.lemmas.List.Sorted.{list_any-IsPermutation, sum_by-IsPermutation}
use Rattle.std.specs.List.{list_any}
use Rattle.std.specs.List.Sorted.{IsPermutation, IsSorted}
use Rattle.std.specs.Ordering.{is_lt}
use Rattle.std.specs.Prelude.{All, not, filter, count_by, Option, Some, None}
use Rattle.std.proofs.Math.Bool.{and-false, or-false}
use Rattle.kc_graph.specs.declared.items.Item.{Item}
use Rattle.kc_graph.specs.declared.items.Item.TheVariants.{Insert, Delete, Isolate}
use Rattle.kc_graph.specs.declared.keys.Key.{Key}
use Rattle.kc_graph.specs.declared.cleaning.Cleaned.{Cleaned}
use Rattle.kc_graph.specs.declared.touched.Touched.{Touched}
use Rattle.kc_graph.specs.declared.later.Later.{Later}
use Rattle.kc_graph.specs.Shape.{GraphShape, Pair, IsNotBefore, EdgesFrom, IsGraph, same_edge, has_edge, neighbours_of}
use Rattle.kc_graph.specs.Cleaning.{IsInside, is_loop, proper_items, pair_of, holds, touches, is_touched, deciding_item, takes_out, is_insertion, removed_edges, inserted_pairs, added_edges, is_repeat, isolates_some, is_idle, count_with_later, cleaned}
use Rattle.kc_graph.specs.private.EdgeLists.{pair_cmp}
use Rattle.kc_graph.specs.private.Keys.{is_pairless, key_at, key_of, repeated}
use Rattle.kc_graph.specs.Keys.{edge_of, removes, adds, decided}
use Rattle.kc_graph.specs.private.Later.{is_noted, is_free_at, isolated, untouched_at, IsOnce, IsProperEffect, IsNetEffect}
use Rattle.kc_graph.proofs.CountLemmas.{count_by-cons}
use Rattle.kc_graph.proofs.EdgeLemmas.{not_before_first, has_edge_before, edge_inside, same_edges}
use Rattle.kc_graph.proofs.EdgeListLemmas.{edge_is, has_edge-filter, edges_from_filter, all_there}
use Rattle.kc_graph.proofs.DecidingLemmas.{list_any_agree}
use Rattle.kc_graph.proofs.BatchLemmas.{deciding_none, inserted_if_decided, edges_from_inserted, key_touches, key_repeats, key_is_idle, key_inserts, inserts}
use Rattle.kc_graph.proofs.KeyLemmas.{key_found}
use Rattle.kc_graph.proofs.CleaningLemmas.{same_cleaned}
use Rattle.kc_graph.proofs.DealtLemmas.{All-both}
use Rattle.kc_graph.proofs.HalfLemmas.{has_edge_any}

-- counts

pub count_first : {X : Type 0} (p : X → Bool) (x : X) (xs : List X) → p x ≡ true → count_by p (x ∷ xs) ≡ 1 + count_by p xs
count_first p x xs passes = count_by-cons p x xs ∙ ap (λ b. cond b 1 0 + count_by p xs) passes

pub count_other : {X : Type 0} (p : X → Bool) (x : X) (xs : List X) → p x ≡ false → count_by p (x ∷ xs) ≡ count_by p xs
count_other p x xs fails = count_by-cons p x xs ∙ ap (λ b. cond b 1 0 + count_by p xs) fails ∙ zero-add (count_by p xs)

-- lists of edges, each once

has_edge-append : (e : Pair) (es fs : List Pair) → has_edge e (es ++ fs) ≡ (has_edge e es || has_edge e fs)
has_edge-append e [] fs = refl
has_edge-append e (f ∷ es) fs = grind (arith, nat_tests, has_edge-append e es fs)

count_absent : (e : Pair) (es : List Pair) → has_edge e es ≡ false → count_by (same_edge e) es ≡ 0
count_absent e [] absent = refl
count_absent e (f ∷ fs) absent = grind (arith, nat_tests, count_absent e fs, count_by-cons)

count_append : (e : Pair) (es fs : List Pair) → count_by (same_edge e) (es ++ fs) ≡ count_by (same_edge e) es + count_by (same_edge e) fs
count_append e [] fs = sym (zero-add (count_by (same_edge e) fs))
count_append e (f ∷ es) fs =
    omega (arith, count_by-cons (same_edge e) f (es ++ fs), count_by-cons (same_edge e) f es, count_append e es fs)

once_none : IsOnce []
once_none e = omega arith

once_one : (f : Pair) → IsOnce (f ∷ [])
once_one f e = grind (arith, nat_tests, count_by-cons)

once_append : (es fs : List Pair) → IsOnce es → IsOnce fs → ((e : Pair) → has_edge e fs ≡ true → has_edge e es ≡ false) → IsOnce (es ++ fs)
once_append es fs once more apart e = go (has_edge e fs) refl
  where
    go : (b : Bool) → has_edge e fs ≡ b → count_by (same_edge e) (es ++ fs) ≤ 1
    go true is = let none = count_absent e es (apart e is) in omega (arith, count_append e es fs, none, more e)
    go false is = let none = count_absent e fs is in omega (arith, count_append e es fs, none, once e)

once_ascending : (n c d : ℕ) (es : List Pair) → EdgesFrom n c d es → IsOnce es
once_ascending n c d [] up e = omega arith
once_ascending n c d (f ∷ fs) up e = go (same_edge e f) refl (count_by-cons (same_edge e) f fs) (once_ascending n f.0 (suc f.1) fs up.3 e)
  where
    go : (b : Bool) → same_edge e f ≡ b → count_by (same_edge e) (f ∷ fs) ≡ cond b 1 0 + count_by (same_edge e) fs → count_by (same_edge e) fs ≤ 1 → count_by (same_edge e) (f ∷ fs) ≤ 1
    go true is split rest =
        let later : IsNotBefore e.0 (suc e.1) (f.0, suc f.1) = grind (arith, nat_tests, is) in
        let none = count_absent e fs (has_edge_before n f.0 (suc f.1) e fs up.3 later) in
        omega arith
    go false is split rest = omega arith

-- lists of edges, sorted

-- each pair is not before those that follow it
abbrev Ascend : List Pair → Type 0
Ascend [] = Unit {0}
Ascend (e ∷ es) = All (IsNotBefore e.0 e.1) es × Ascend es

not_before : (e f : Pair) → is_lt (pair_cmp f e) ≡ false → IsNotBefore e.0 e.1 f
not_before e f h = grind (arith, nat_tests, h)

not_before_trans : (e f g : Pair) → IsNotBefore e.0 e.1 f → IsNotBefore f.0 f.1 g → IsNotBefore e.0 e.1 g
not_before_trans e f g h i = grind (arith, h, i)

ascend_from_sorted : (es : List Pair) → IsSorted pair_cmp es → Ascend es
ascend_from_sorted [] up = tt
ascend_from_sorted (e ∷ []) up = (All-nil (IsNotBefore e.0 e.1), tt)
ascend_from_sorted (e ∷ f ∷ es) up =
    let rest : Ascend (f ∷ es) = ascend_from_sorted (f ∷ es) (λ i d low high. later i d high) in
    let here : IsNotBefore e.0 e.1 f = not_before e f (up 0 e (omega arith) (omega arith)) in
    (All-cons (IsNotBefore e.0 e.1) f es here (All-weaker (IsNotBefore f.0 f.1) (IsNotBefore e.0 e.1) (λ g. not_before_trans e f g here) es rest.0), rest)
  where
    later : (i : ℕ) (d : Pair) → i + 1 < length (f ∷ es) → is_lt (pair_cmp (get_or (f ∷ es) (i + 1) d) (get_or (f ∷ es) i d)) ≡ false
    later i d high =
        let next : suc (i + 1) ≡ suc i + 1 = omega arith in
        subst (λ (m : ℕ). is_lt (pair_cmp (get_or (e ∷ f ∷ es) m d) (get_or (f ∷ es) i d)) ≡ false) (sym next) (up (suc i) d (omega arith) (omega arith))

none_counted : (e : Pair) (es : List Pair) → count_by (same_edge e) es ≡ 0 → All (λ f. same_edge e f ≡ false) es
none_counted e [] h = All-nil (λ (f : Pair). same_edge e f ≡ false)
none_counted e (f ∷ fs) h = go (same_edge e f) refl (λ fails. none_counted e fs (sym (count_other (same_edge e) f fs fails) ∙ h))
  where
    go : (b : Bool) → same_edge e f ≡ b → (same_edge e f ≡ false → All (λ g. same_edge e g ≡ false) fs) → All (λ g. same_edge e g ≡ false) (f ∷ fs)
    go true is rest = let one = count_first (same_edge e) f fs is in absurd (omega arith)
    go false is rest = All-cons (λ g. same_edge e g ≡ false) f fs is (rest is)

edges_from_ascend : (n c d : ℕ) (es : List Pair) → Ascend es → IsOnce es → All (λ e. (e.0 < e.1) × (e.1 < n)) es → All (IsNotBefore c d) es → EdgesFrom n c d es
edges_from_ascend n c d [] up once inside from = tt
edges_from_ascend n c d (e ∷ es) up once inside from =
    let P : Pair → Type 0 = λ e. (e.0 < e.1) × (e.1 < n) in
    let here : P e = All-head P e es inside in
    let own : same_edge e e ≡ true = grind (arith, nat_tests) in
    let one = count_first (same_edge e) e es own in
    let none : count_by (same_edge e) es ≡ 0 = omega (arith, one, once e) in (
      All-head (IsNotBefore c d) e es from,
      here.0,
      here.1,
      edges_from_ascend n e.0 (suc e.1) es up.1 fewer (All-tail P e es inside)
          (All-weaker (λ f. IsNotBefore e.0 e.1 f × (same_edge e f ≡ false)) (IsNotBefore e.0 (suc e.1)) (λ f h. grind (arith, nat_tests, h.0, h.1)) es (All-both (IsNotBefore e.0 e.1) (λ f. same_edge e f ≡ false) es up.0 (none_counted e es none))),
    )
  where
    fewer : IsOnce es
    fewer f = omega (arith, count_by-cons (same_edge f) e es, once f)

-- edges in any order, each once, are an ascending list once they are sorted
pub sorted_edges : (n : ℕ) (es fs gs : List Pair) → IsOnce es → IsPermutation es fs → IsSorted pair_cmp fs → EdgesFrom n 0 0 gs → ((e : Pair) → has_edge e es ≡ has_edge e gs) → fs ≡ gs
sorted_edges n es fs gs once same up ascend agree =
    same_edges n 0 0 fs gs (edges_from_ascend n 0 0 fs (ascend_from_sorted fs up) once' inside (λ i d h. not_before_first (get_or fs i d))) ascend agree'
  where
    agree' : (e : Pair) → has_edge e fs ≡ has_edge e gs
    agree' e = has_edge_any e fs ∙ sym (list_any-IsPermutation (same_edge e) es fs same) ∙ sym (has_edge_any e es) ∙ agree e

    once' : IsOnce fs
    once' e = rw (sum_by-IsPermutation (λ f. cond (same_edge e f) 1 0) es fs same) (once e)

    inside : All (λ e. (e.0 < e.1) × (e.1 < n)) fs
    inside = all_there fs (λ e. (e.0 < e.1) × (e.1 < n)) (λ e h. edge_inside n 0 0 e gs ascend (sym (agree' e) ∙ h))

-- one more item

-- an item that touches no pair but those that are touched later changes no decision
pub decides_as_later : (e : Pair) (item : Item) (items : List Item) → (is_touched e items ≡ false → touches e item ≡ false) → deciding_item e (item ∷ items) ≡ deciding_item e items
decides_as_later e item items none = grind (arith, nat_tests, deciding_none)

-- an edge that no later item touches is in neither list
untouched_not_removed : (edges : List Pair) (items : List Item) (l : Later) (e : Pair) → IsProperEffect edges items l → is_touched e items ≡ false → has_edge e l.cleaned.removed ≡ false
untouched_not_removed edges items l e s none = s.removed e ∙ ap (λ (o : Option Item). takes_out o && has_edge e edges) (deciding_none e items none)

untouched_not_added : (edges : List Pair) (items : List Item) (l : Later) (e : Pair) → IsProperEffect edges items l → is_touched e items ≡ false → has_edge e l.cleaned.added ≡ false
untouched_not_added edges items l e s none = s.added e ∙ ap (λ (o : Option Item). is_insertion o && not (has_edge e edges)) (deciding_none e items none)

-- no items
pub net_effect_none : (edges : List Pair) (c : Cleaned) (t : Touched) → c ≡ record { removed = []; added = []; loops = 0; repeats = 0; idle = 0 } → t.pairs.keys ≡ [] → t.isolated.keys ≡ [] → IsNetEffect edges [] (record { cleaned = c; touched = t })
net_effect_none edges c t is pairs vertices = record {
  loops = ap (λ (c : Cleaned). c.loops) is;
  others = record {
    noted = λ e. rw (pairs, vertices) refl;
    removed = λ e. rw is refl;
    removed_once = rw is once_none;
    added = λ e. rw is refl;
    added_once = rw is once_none;
    repeats = ap (λ (c : Cleaned). c.repeats) is;
    idle = ap (λ (c : Cleaned). c.idle) is;
  };
}

not_loop : (item : Item) → is_pairless item ≡ false → is_loop item ≡ false
not_loop (Insert u v) paired = paired
not_loop (Delete u v) paired = paired
not_loop (Isolate v) paired = absurd (cc)

takes_out_item : (item : Item) → takes_out (Some item) ≡ not (inserts item)
takes_out_item (Insert u v) = refl
takes_out_item (Delete u v) = refl
takes_out_item (Isolate v) = refl

insertion_item : (item : Item) → is_insertion (Some item) ≡ inserts item
insertion_item (Insert u v) = refl
insertion_item (Delete u v) = refl
insertion_item (Isolate v) = refl

has_edge_pushed : (e f : Pair) (b : Bool) (es : List Pair) → has_edge e (cond b (es ++ f ∷ []) es) ≡ ((same_edge e f && b) || has_edge e es)
has_edge_pushed e f true es = grind (arith, nat_tests, has_edge-append)
has_edge_pushed e f false es = sym (ap (λ b. b || has_edge e es) (and-false (same_edge e f)))

once_pushed : (f : Pair) (b : Bool) (es : List Pair) → IsOnce es → has_edge f es ≡ false → IsOnce (cond b (es ++ f ∷ []) es)
once_pushed f true es once absent = once_append es (f ∷ []) once (once_one f) apart
  where
    apart : (e : Pair) → (same_edge e f || false) ≡ true → has_edge e es ≡ false
    apart e h = let same : e ≡ f = edge_is e f (sym (or-false (same_edge e f)) ∙ h) in ap (λ g. has_edge g es) same ∙ absent
once_pushed f false es once absent = once

-- the key of an item that a later one follows on its pair
proper_effect_repeat : (edges : List Pair) (item : Item) (items : List Item) (old new : Later) → is_pairless item ≡ false → is_touched (edge_of (key_at item)) items ≡ true → IsProperEffect edges items old → new.cleaned ≡ repeated old.cleaned → ((e : Pair) → is_noted new.touched e ≡ is_touched e (item ∷ items)) → IsProperEffect edges (item ∷ items) new
proper_effect_repeat edges item items old new paired again s is notes = record {
  noted = notes;
  removed = λ e. rw (is, as_later e) (s.removed e);
  removed_once = rw is s.removed_once;
  added = λ e. rw (is, as_later e) (s.added e);
  added_once = rw is s.added_once;
  repeats = ap (λ (c : Cleaned). c.repeats) is ∙ rw (sym (key_repeats item items paired) ∙ again) (omega (arith, s.repeats));
  idle = ap (λ (c : Cleaned). c.idle) is ∙ s.idle ∙ rw (key_is_idle edges item items paired, again) (sym (zero-add (count_with_later (is_idle edges) items)));
}
  where
    as_later : (e : Pair) → deciding_item e (item ∷ items) ≡ deciding_item e items
    as_later e = grind (arith, nat_tests, decides_as_later, edge_is, key_touches)

-- the key of an item that decides
proper_effect_decision : (edges : List Pair) (item : Item) (items : List Item) (old new : Later) → is_pairless item ≡ false → is_touched (edge_of (key_at item)) items ≡ false → IsProperEffect edges items old → new.cleaned ≡ decided edges (key_at item) old.cleaned → ((e : Pair) → is_noted new.touched e ≡ is_touched e (item ∷ items)) → IsProperEffect edges (item ∷ items) new
proper_effect_decision edges item items old new paired none s is notes = record {
  noted = notes;
  removed = λ e. rw is (has_edge_pushed e (edge_of (key_at item)) (removes edges (key_at item)) old.cleaned.removed ∙ out e (touches e item) refl);
  removed_once = rw is (once_pushed (edge_of (key_at item)) (removes edges (key_at item)) old.cleaned.removed s.removed_once (untouched_not_removed edges items old (edge_of (key_at item)) s none));
  added = λ e. rw is (has_edge_pushed e (edge_of (key_at item)) (adds edges (key_at item)) old.cleaned.added ∙ in_ e (touches e item) refl);
  added_once = rw is (once_pushed (edge_of (key_at item)) (adds edges (key_at item)) old.cleaned.added s.added_once (untouched_not_added edges items old (edge_of (key_at item)) s none));
  repeats = ap (λ (c : Cleaned). c.repeats) is ∙ s.repeats ∙ rw (sym (key_repeats item items paired) ∙ none) (sym (zero-add (count_with_later is_repeat items)));
  idle = ap (λ (c : Cleaned). c.idle) is ∙ rw (key_is_idle edges item items paired, none) (idle_more (removes edges (key_at item) || adds edges (key_at item)));
}
  where
    idle_more : (b : Bool) → old.cleaned.idle + cond b 0 1 ≡ cond (not b) 1 0 + count_with_later (is_idle edges) items
    idle_more true = omega (arith, s.idle)
    idle_more false = omega (arith, s.idle)

    is_it : (e : Pair) → touches e item ≡ true → e ≡ edge_of (key_at item)
    is_it e here = edge_is e (edge_of (key_at item)) (key_touches e item paired ∙ here)

    here_decides : (e : Pair) → touches e item ≡ true → deciding_item e (item ∷ items) ≡ Some item
    here_decides e here = rw (ap (λ f. is_touched f items) (is_it e here) ∙ none, here) refl

    out : (e : Pair) (t : Bool) → touches e item ≡ t → ((same_edge e (edge_of (key_at item)) && removes edges (key_at item)) || has_edge e old.cleaned.removed) ≡ (takes_out (deciding_item e (item ∷ items)) && has_edge e edges)
    out e true here =
        let absent = untouched_not_removed edges items old e s (ap (λ f. is_touched f items) (is_it e here) ∙ none) in
        rw (here_decides e here, takes_out_item item, absent, key_touches e item paired ∙ here, key_inserts item, ← is_it e here) (or-false (not (inserts item) && has_edge e edges))
    out e false other = rw (key_touches e item paired ∙ other, decides_as_later e item items (λ h. other)) (s.removed e)

    in_ : (e : Pair) (t : Bool) → touches e item ≡ t → ((same_edge e (edge_of (key_at item)) && adds edges (key_at item)) || has_edge e old.cleaned.added) ≡ (is_insertion (deciding_item e (item ∷ items)) && not (has_edge e edges))
    in_ e true here =
        let absent = untouched_not_added edges items old e s (ap (λ f. is_touched f items) (is_it e here) ∙ none) in
        rw (here_decides e here, insertion_item item, absent, key_touches e item paired ∙ here, key_inserts item, ← is_it e here) (or-false (inserts item && not (has_edge e edges)))
    in_ e false other = rw (key_touches e item paired ∙ other, decides_as_later e item items (λ h. other)) (s.added e)

net_effect_key : (edges : List Pair) (item : Item) (items : List Item) (old new : Later) → is_pairless item ≡ false → IsNetEffect edges items old → new.cleaned ≡ cond (is_noted old.touched (edge_of (key_at item))) (repeated old.cleaned) (decided edges (key_at item) old.cleaned) → ((e : Pair) → is_noted new.touched e ≡ (same_edge e (edge_of (key_at item)) || is_noted old.touched e)) → IsNetEffect edges (item ∷ items) new
net_effect_key edges item items old new paired s is notes = record {
  loops = loops (is_noted old.touched (edge_of (key_at item))) is ∙ s.loops ∙ sym (count_other is_loop item items (not_loop item paired));
  others = rw (not_loop item paired) (go (is_noted old.touched (edge_of (key_at item))) refl is);
}
  where
    loops : (b : Bool) → new.cleaned ≡ cond b (repeated old.cleaned) (decided edges (key_at item) old.cleaned) → new.cleaned.loops ≡ old.cleaned.loops
    loops true is = ap (λ (c : Cleaned). c.loops) is
    loops false is = ap (λ (c : Cleaned). c.loops) is

    notes' : (e : Pair) → is_noted new.touched e ≡ is_touched e (item ∷ proper_items items)
    notes' e = notes e ∙ rw (key_touches e item paired, s.others.noted e) refl

    go : (b : Bool) → is_noted old.touched (edge_of (key_at item)) ≡ b → new.cleaned ≡ cond b (repeated old.cleaned) (decided edges (key_at item) old.cleaned) → IsProperEffect edges (item ∷ proper_items items) new
    go true again is = proper_effect_repeat edges item (proper_items items) old new paired (sym (s.others.noted (edge_of (key_at item))) ∙ again) s.others is notes'
    go false first is = proper_effect_decision edges item (proper_items items) old new paired (sym (s.others.noted (edge_of (key_at item))) ∙ first) s.others is notes'

pub net_effect_found_key : (edges : List Pair) (item : Item) (items : List Item) (key : Key) (old new : Later) → key_of item ≡ Some key → IsNetEffect edges items old → new.cleaned ≡ cond (is_noted old.touched (edge_of key)) (repeated old.cleaned) (decided edges key old.cleaned) → ((e : Pair) → is_noted new.touched e ≡ (same_edge e (edge_of key) || is_noted old.touched e)) → IsNetEffect edges (item ∷ items) new
net_effect_found_key edges item items key old new found s is notes =
    let known = key_found item key found in
    net_effect_key edges item items old new known.0 s (is ∙ ap (λ (k : Key). cond (is_noted old.touched (edge_of k)) (repeated old.cleaned) (decided edges k old.cleaned)) known.1) (λ e. notes e ∙ ap (λ (k : Key). same_edge e (edge_of k) || is_noted old.touched e) known.1)

-- an isolation

proper_effect_isolation : (n : ℕ) (edges : List Pair) (v : ℕ) (items : List Item) (old new : Later) → EdgesFrom n 0 0 edges → IsProperEffect edges items old → new.cleaned ≡ isolated edges old.touched v old.cleaned → ((e : Pair) → is_noted new.touched e ≡ (holds v e || is_noted old.touched e)) → IsProperEffect edges (Isolate v ∷ items) new
proper_effect_isolation n edges v items old new up s is notes = record {
  noted = λ e. notes e ∙ ap (λ b. holds v e || b) (s.noted e);
  removed = λ e. rw (is, has_edge-append e old.cleaned.removed (filter (is_free_at old.touched v) edges), has_edge-filter e (is_free_at old.touched v) edges, free e) (out e (is_touched e items) refl);
  removed_once = rw is (once_append old.cleaned.removed (filter (is_free_at old.touched v) edges) s.removed_once (once_ascending n 0 0 (filter (is_free_at old.touched v) edges) (edges_from_filter n 0 0 (is_free_at old.touched v) edges up)) apart);
  added = λ e. rw is (s.added e ∙ in_ e (is_touched e items) refl (holds v e));
  added_once = rw is s.added_once;
  repeats = ap (λ (c : Cleaned). c.repeats) is ∙ s.repeats ∙ sym (zero-add (count_with_later is_repeat items));
  idle = ap (λ (c : Cleaned). c.idle) is ∙ rw agree (idle_more (isolates_some v edges items));
}
  where
    free : (e : Pair) → is_free_at old.touched v e ≡ (holds v e && not (is_touched e items))
    free e = ap (λ b. holds v e && not b) (s.noted e)

    agree : list_any (is_free_at old.touched v) edges ≡ isolates_some v edges items
    agree = list_any_agree (is_free_at old.touched v) (λ e. holds v e && not (is_touched e items)) edges (λ i d h. free (get_or edges i d))

    idle_more : (b : Bool) → old.cleaned.idle + cond b 0 1 ≡ cond (not b) 1 0 + count_with_later (is_idle edges) items
    idle_more true = omega (arith, s.idle)
    idle_more false = omega (arith, s.idle)

    apart : (e : Pair) → has_edge e (filter (is_free_at old.touched v) edges) ≡ true → has_edge e old.cleaned.removed ≡ false
    apart e h =
        let found = and_parts (is_free_at old.touched v e) (has_edge e edges) (sym (has_edge-filter e (is_free_at old.touched v) edges) ∙ h) in
        let untouched = and_parts (holds v e) (not (is_touched e items)) (sym (free e) ∙ found.0) in
        untouched_not_removed edges items old e s (not-true (is_touched e items) untouched.1)

    out : (e : Pair) (b : Bool) → is_touched e items ≡ b → (has_edge e old.cleaned.removed || ((holds v e && not b) && has_edge e edges)) ≡ (takes_out (cond b (deciding_item e items) (cond (holds v e) (Some (Isolate v)) None)) && has_edge e edges)
    out e true again = rw (and-false (holds v e)) (or-false (has_edge e old.cleaned.removed) ∙ s.removed e)
    out e false none = rw (untouched_not_removed edges items old e s none) (at (holds v e))
      where
        at : (h : Bool) → ((h && true) && has_edge e edges) ≡ (takes_out (cond h (Some (Isolate v)) None) && has_edge e edges)
        at true = refl
        at false = refl

    in_ : (e : Pair) (b : Bool) → is_touched e items ≡ b → (h : Bool) → (is_insertion (deciding_item e items) && not (has_edge e edges)) ≡ (is_insertion (cond b (deciding_item e items) (cond h (Some (Isolate v)) None)) && not (has_edge e edges))
    in_ e true again h = refl
    in_ e false none true = rw (deciding_none e items none) refl
    in_ e false none false = rw (deciding_none e items none) refl

pub net_effect_isolation : (n : ℕ) (edges : List Pair) (v : ℕ) (items : List Item) (old new : Later) → EdgesFrom n 0 0 edges → IsNetEffect edges items old → new.cleaned ≡ isolated edges old.touched v old.cleaned → ((e : Pair) → is_noted new.touched e ≡ (holds v e || is_noted old.touched e)) → IsNetEffect edges (Isolate v ∷ items) new
net_effect_isolation n edges v items old new up s is notes = record {
  loops = ap (λ (c : Cleaned). c.loops) is ∙ s.loops ∙ sym (count_other is_loop (Isolate v) items refl);
  others = proper_effect_isolation n edges v (proper_items items) old new up s.others is notes;
}

-- the row of an isolated vertex

pub row_edges : (n c d : ℕ) (t : Touched) (v : ℕ) (es : List Pair) → EdgesFrom n c d es → untouched_at t v (neighbours_of v es) ≡ filter (is_free_at t v) es
row_edges n c d t v [] up = refl
row_edges n c d t v (f ∷ fs) up = go (eqb f.0 v) refl (eqb f.1 v) refl (row_edges n f.0 (suc f.1) t v fs up.3)
  where
    kept : (b : Bool) (e : Pair) (xs ys : List Pair) → e ≡ f → xs ≡ ys → cond b xs (e ∷ xs) ≡ cond (not b) (f ∷ ys) ys
    kept true e xs ys same rest = rest
    kept false e xs ys same rest = rw (same, rest) refl

    go : (a : Bool) → eqb f.0 v ≡ a → (b : Bool) → eqb f.1 v ≡ b → untouched_at t v (neighbours_of v fs) ≡ filter (is_free_at t v) fs → untouched_at t v (cond a (f.1 ∷ neighbours_of v fs) (cond b (f.0 ∷ neighbours_of v fs) (neighbours_of v fs))) ≡ cond ((a || b) && not (is_noted t f)) (f ∷ filter (is_free_at t v) fs) (filter (is_free_at t v) fs)
    go true here b there rest =
        let same : pair_of v f.1 ≡ f = edge_is (pair_of v f.1) f (grind (arith, nat_tests, here, up.1)) in
        rw same (kept (is_noted t f) f (untouched_at t v (neighbours_of v fs)) (filter (is_free_at t v) fs) refl rest)
    go false here true there rest =
        let same : pair_of v f.0 ≡ f = edge_is (pair_of v f.0) f (grind (arith, nat_tests, there, up.1)) in
        rw same (kept (is_noted t f) f (untouched_at t v (neighbours_of v fs)) (filter (is_free_at t v) fs) refl rest)
    go false here false there rest = rest

pub neighbours_apart : (n c d v : ℕ) (es : List Pair) → EdgesFrom n c d es → All (λ w. v ≢ w) (neighbours_of v es)
neighbours_apart n c d v [] up = All-nil (λ w. v ≢ w)
neighbours_apart n c d v (f ∷ fs) up = grind (arith, nat_tests, neighbours_apart n f.0 (suc f.1) v fs up.3, up.3, up.1)

-- edges pass a test exactly where one is found
pub filter_none : (p : Pair → Bool) (es : List Pair) → list_any p es ≡ false → filter p es ≡ []
filter_none p [] none = refl
filter_none p (e ∷ es) none = grind (arith, nat_tests, filter_none p es)

pub filter_some : (p : Pair → Bool) (es : List Pair) → list_any p es ≡ true → 0 < length (filter p es)
filter_some p [] some = absurd (cc)
filter_some p (e ∷ es) some = grind (arith, nat_tests, filter_some p es)

row_length : (n : ℕ) (edges : List Pair) (t : Touched) (v : ℕ) (c : Cleaned) (more : List Pair) → EdgesFrom n 0 0 edges → more ≡ c.removed ++ untouched_at t v (neighbours_of v edges) → (more ≡ c.removed ++ filter (is_free_at t v) edges) × (length more ≡ length c.removed + length (filter (is_free_at t v) edges))
row_length n edges t v c more up is =
    let all = is ∙ ap (λ (es : List Pair). c.removed ++ es) (row_edges n 0 0 t v edges up) in
    (all, ap length all ∙ length-append c.removed (filter (is_free_at t v) edges))

pub row_idle : (n : ℕ) (edges : List Pair) (t : Touched) (v : ℕ) (c : Cleaned) (more : List Pair) → EdgesFrom n 0 0 edges → more ≡ c.removed ++ untouched_at t v (neighbours_of v edges) → length more ≡ length c.removed → record c { removed = more; idle = c.idle + 1 } ≡ isolated edges t v c
row_idle n edges t v c more up is same = grind (arith, nat_tests, row_length, filter_some)

pub row_works : (n : ℕ) (edges : List Pair) (t : Touched) (v : ℕ) (c : Cleaned) (more : List Pair) → EdgesFrom n 0 0 edges → more ≡ c.removed ++ untouched_at t v (neighbours_of v edges) → length more ≢ length c.removed → record c { removed = more } ≡ isolated edges t v c
row_works n edges t v c more up is longer = grind (arith, nat_tests, row_length, filter_none)

-- an isolation all of whose pairs are noted
pub all_noted : (edges : List Pair) (t : Touched) (v : ℕ) (c : Cleaned) → ((e : Pair) → holds v e ≡ true → is_noted t e ≡ true) → record c { idle = c.idle + 1 } ≡ isolated edges t v c
all_noted edges t v c all = grind (arith, nat_tests, list_any_none, filter_none, append-nil, and-false)

count_le : (p : Item → Bool) (items : List Item) → count_by p items ≤ length items
count_le p [] = omega arith
count_le p (item ∷ items) = grind (arith, nat_tests, count_le p items, count_by-cons)

count_with_later_le : (p : Item → List Item → Bool) (items : List Item) → count_with_later p items ≤ length items
count_with_later_le p [] = omega arith
count_with_later_le p (item ∷ items) = grind (arith, nat_tests, count_with_later_le p items)

proper_le : (items : List Item) → length (proper_items items) ≤ length items
proper_le [] = omega arith
proper_le (item ∷ items) = grind (arith, nat_tests, proper_le items)

pub counts_few : (edges : List Pair) (items : List Item) (l : Later) → IsNetEffect edges items l → (l.cleaned.loops ≤ length items) × (l.cleaned.repeats ≤ length items) × (l.cleaned.idle ≤ length items)
counts_few edges items l s = grind (arith, nat_tests, proper_le, count_le, count_with_later_le, s.loops, s.others.repeats, s.others.idle)

pub in_added : (edges : List Pair) (items : List Item) (e : Pair) → (is_insertion (deciding_item e items) && not (has_edge e edges)) ≡ has_edge e (added_edges edges items)
in_added edges items e = grind (arith, nat_tests, inserted_if_decided, has_edge-filter)

pub come_to_cleaned : (g : GraphShape) (items : List Item) (l : Later) (removed added : List Pair) (c : Cleaned) → IsGraph g → All (IsInside g.vertices) items → IsNetEffect g.edges items l → IsPermutation l.cleaned.removed removed → IsSorted pair_cmp removed → IsPermutation l.cleaned.added added → IsSorted pair_cmp added → c ≡ record l.cleaned { removed = removed; added = added } → c ≡ cleaned g items
come_to_cleaned g items l removed added c graph inside s removed_same removed_up added_same added_up is =
    same_cleaned c (cleaned g items)
    (ap (λ (c : Cleaned). c.removed) is ∙ sorted_edges g.vertices l.cleaned.removed removed (removed_edges g.edges (proper_items items)) s.others.removed_once removed_same removed_up
    (edges_from_filter g.vertices 0 0 (λ e. takes_out (deciding_item e (proper_items items))) g.edges graph)
    (λ e. s.others.removed e ∙ sym (has_edge-filter e (λ e. takes_out (deciding_item e (proper_items items))) g.edges)))
    (ap (λ (c : Cleaned). c.added) is ∙ sorted_edges g.vertices l.cleaned.added added (added_edges g.edges (proper_items items)) s.others.added_once added_same added_up
    (edges_from_filter g.vertices 0 0 (λ e. not (has_edge e g.edges) && is_insertion (deciding_item e (proper_items items))) (inserted_pairs (proper_items items)) (edges_from_inserted g.vertices items inside))
    (λ e. s.others.added e ∙ in_added g.edges (proper_items items) e))
    (ap (λ (c : Cleaned). c.loops) is ∙ s.loops)
    (ap (λ (c : Cleaned). c.repeats) is ∙ s.others.repeats)
    (ap (λ (c : Cleaned). c.idle) is ∙ s.others.idle)
