-- Batches one after another: there is room for each, and they lead from state to state.
use Rattle.std.proofs.Common.{ℕ, ◌≡◌, ◌≤◌, ◌+◌, ◌*◌, ◌-◌, true, List, [], ◌∷◌, ◌++◌, length, refl, sym, ap, ◌∙◌, subst, append_assoc, arith}
use Rattle.std.specs.Prelude.{None, All, ◌&&◌}
use Rattle.std.proofs.lemmas.Bool.Decides.{nat_tests}
use Rattle.std.proofs.lemmas.List.{append-nil, length-append, length-map}
use Rattle.std.proofs.lemmas.List.Concat.{flat_map-append}
use Rattle.std.proofs.lemmas.List.Elements.{All-nil, All-cons, All-head, All-tail}
use Rattle.std.proofs.lemmas.List.Folds.{list_all-append}
use Rattle.std.proofs.lemmas.Bool.{and_parts}
use Rattle.kc_graph.specs.declared.cleaning.Cleaned.{Cleaned}
use Rattle.kc_graph.specs.declared.items.Item.{Item}
use Rattle.kc_graph.specs.declared.items.Item.TheVariants.{Insert, Delete, Isolate}
use Rattle.kc_graph.specs.declared.limits.TheConstants.{MAX_EDGES, MAX_ITEMS}
use Rattle.kc_graph.specs.Shape.{Pair, GraphShape, IsGraph}
use Rattle.kc_graph.specs.Cleaning.{IsInside, cleaned}
use Rattle.kc_graph.proofs.lemmas.Cleaning.{each_item_counts_once}
use Rattle.kc_history.specs.declared.limits.TheConstants.{MAX_PHASE}
use Rattle.kc_engine.specs.States.{State, IsSound}
use Rattle.kc_engine.specs.Batches.{IsCleaning, phases_for, phases_of, edges_after, phases_after, refusal_of, IsAfterBatch}
use Rattle.kc_engine.proofs.lemmas.Batches.{batch_has_one_state, batch_keeps_sound, vertices_after, edges_behind, fits}
use Rattle.kc_intake.specs.declared.updates.Update.{Update}
use Rattle.kc_intake.specs.Updates.{all_updates}
use Rattle.kserve.specs.Batches.{LeadTo}
use Rattle.kserve.specs.private.Fitting.{is_due, are_due}
use Rattle.kserve.specs.Fitting.{items_of}
use Rattle.kserve.specs.private.Engines.{HasRoom}
use Rattle.kserve.specs.Lines.{batch_text, batch_lines}

-- after `count` updates there are no more edges than that, and at most two phases for each
pub record IsWithin (count : ℕ) (s : State) : Type 0 where
  pub edges : length s.graph.edges ≤ count
  pub phases : s.phases ≤ 2 * count

pub room_within : (count : ℕ) (s : State) → count ≤ MAX_ITEMS → IsWithin count s → HasRoom s
room_within count s few w = record { edges = omega (arith, few, w.edges); phases = omega (arith, few, w.phases) }

phases_few : (es : List Pair) → phases_for es ≤ 1
phases_few [] = omega arith
phases_few (e ∷ es) = omega arith

pub two_phases : (c : Cleaned) → phases_of c ≤ 2
two_phases c = omega (arith, phases_few c.removed, phases_few c.added)

-- a batch adds at most an edge for each of its items
added_by : (g : GraphShape) (items : List Item) → IsGraph g → All (IsInside g.vertices) items → length (cleaned g items).added ≤ length items
added_by g items graph inside = omega (arith, each_item_counts_once g items graph inside)

edges_by : (g : GraphShape) (items : List Item) (count : ℕ) → IsGraph g → All (IsInside g.vertices) items → length g.edges ≤ count → length g.edges - length (cleaned g items).removed + length (cleaned g items).added ≤ count + length items
edges_by g items count graph inside few = omega (arith, added_by g items graph inside, few)

-- a batch of items that are inside
pub cleaning_of : (g : GraphShape) (items : List Item) → All (IsInside g.vertices) items → length items ≤ MAX_ITEMS → IsCleaning g (cleaned g items)
cleaning_of g items inside few = record { items = items; inside = inside; few = few; comes_to = refl }

not_refused : (limit : ℕ) (s : State) (c : Cleaned) → edges_after s c ≤ limit → phases_after s c ≤ MAX_PHASE → refusal_of limit s c ≡ None
not_refused limit s c edges phases = grind (arith, nat_tests, edges, phases)

-- where there is room a batch isn't refused
pub accepted : (s : State) (items : List Item) → IsSound MAX_EDGES s → HasRoom s → All (IsInside s.graph.vertices) items → length items ≤ MAX_ITEMS → refusal_of MAX_EDGES s (cleaned s.graph items) ≡ None
accepted s items k room inside few =
    not_refused MAX_EDGES s (cleaned s.graph items)
    (omega (arith, edges_by s.graph items (length s.graph.edges) k.graph inside (omega arith), room.edges, few))
    (omega (arith, two_phases (cleaned s.graph items), room.phases))

-- the bounds after a batch of one item at least
pub within_more : (count : ℕ) (s t : State) (items : List Item) → IsSound MAX_EDGES s → IsWithin count s → count ≤ MAX_ITEMS → All (IsInside s.graph.vertices) items → 1 ≤ length items → length items ≤ MAX_ITEMS
    → IsAfterBatch s (cleaned s.graph items) t → IsWithin (count + length items) t
within_more count s t items k w few inside some fewer a =
    let cleaning = cleaning_of s.graph items inside fewer in record {
      edges = rw a.graph (edges_behind s.graph (cleaned s.graph items) (count + length items) (omega (arith, few, fewer)) (fits s.graph (cleaned s.graph items) k.graph cleaning) (edges_by s.graph items count k.graph inside w.edges));
      phases = rw a.phases (omega (arith, two_phases (cleaned s.graph items), w.phases, some));
    }

inside_if_due : (n : ℕ) (item : Item) → is_due n item ≡ true → IsInside n item
inside_if_due n (Insert u v) e = (grind (arith, nat_tests, e), grind (arith, nat_tests, e))
inside_if_due n (Delete u v) e = (grind (arith, nat_tests, e), grind (arith, nat_tests, e))
inside_if_due n (Isolate v) e = absurd cc

pub inside_all : (n : ℕ) (us : List Update) → are_due n us ≡ true → All (IsInside n) (items_of us)
inside_all n [] e = All-nil (IsInside n)
inside_all n (u ∷ us) e = All-cons (IsInside n) u.item (items_of us) (inside_if_due n u.item (and_parts (is_due n u.item) (are_due n us) e).0) (inside_all n us (and_parts (is_due n u.item) (are_due n us) e).1)

-- the sound state after a batch
pub sound_more : (s t : State) (items : List Item) → IsSound MAX_EDGES s → HasRoom s → All (IsInside s.graph.vertices) items → length items ≤ MAX_ITEMS → IsAfterBatch s (cleaned s.graph items) t → IsSound MAX_EDGES t
sound_more s t items k room inside few a =
    batch_keeps_sound MAX_EDGES s t (cleaned s.graph items) (omega arith) k (cleaning_of s.graph items inside few) (accepted s items k room inside few) a

-- one batch more
pub lead_more : (s t u : State) (bs : List (List Update)) (b : List Update) → LeadTo s bs t → IsAfterBatch t (cleaned t.graph (items_of b)) u → LeadTo s (bs ++ b ∷ []) u
lead_more s t u [] b e a = (u, (subst (λ (z : State). IsAfterBatch z (cleaned z.graph (items_of b)) u) e a, refl))
lead_more s t u (c ∷ bs) b e a = (e.0, (e.1.0, lead_more e.0 t u bs b e.1.1 a))

pub profile_lead : (s t : State) (bs : List (List Update)) → LeadTo s bs t → t.profile ≡ s.profile
profile_lead s t [] e = ap (λ (z : State). z.profile) e
profile_lead s t (b ∷ bs) e = profile_lead e.0 t bs e.1.1 ∙ e.1.0.profile

pub vertices_lead : (s t : State) (bs : List (List Update)) → LeadTo s bs t → t.graph.vertices ≡ s.graph.vertices
vertices_lead s t [] e = ap (λ (z : State). z.graph.vertices) e
vertices_lead s t (b ∷ bs) e = vertices_lead e.0 t bs e.1.1 ∙ (ap (λ (g : GraphShape). g.vertices) e.1.0.graph ∙ vertices_after s.graph (cleaned s.graph (items_of b)))

pub updates_more : (bs : List (List Update)) (b : List Update) → all_updates (bs ++ b ∷ []) ≡ all_updates bs ++ b
updates_more bs b = flat_map-append (λ batch. batch) bs (b ∷ []) ∙ ap (λ us. all_updates bs ++ us) (append-nil b)

pub due_more : (n : ℕ) (bs : List (List Update)) (b : List Update) → are_due n (all_updates (bs ++ b ∷ [])) ≡ (are_due n (all_updates bs) && are_due n b)
due_more n bs b = ap (λ us. are_due n us) (updates_more bs b) ∙ list_all-append (λ u. is_due n u.item) (all_updates bs) b

pub count_more : (bs : List (List Update)) (b : List Update) → length (all_updates (bs ++ b ∷ [])) ≡ length (all_updates bs) + length b
count_more bs b = ap (λ (us : List Update). length us) (updates_more bs b) ∙ length-append (all_updates bs) b

pub lines_more : (k : ℕ) (bs : List (List Update)) (b : List Update) → batch_lines k (bs ++ b ∷ []) ≡ batch_lines k bs ++ batch_text (k + length bs) b
lines_more k [] b = append-nil (batch_text k b) ∙ (let e : k ≡ k + 0 = omega arith in ap (λ j. batch_text j b) e)
lines_more k (c ∷ bs) b =
    let e : (k + 1) + length bs ≡ k + length (c ∷ bs) = omega arith in
    ap (λ ls. batch_text k c ++ ls) (lines_more (k + 1) bs b ∙ ap (λ j. batch_lines (k + 1) bs ++ batch_text j b) e) ∙ sym (append_assoc (batch_text k c) (batch_lines (k + 1) bs) (batch_text (k + length (c ∷ bs)) b))

-- all batches lead somewhere, where both invariants hold
pub leads : (n count : ℕ) (s : State) (bs : List (List Update)) → IsSound MAX_EDGES s → IsWithin count s → s.graph.vertices ≡ n → All (λ b. 1 ≤ length b) bs → are_due n (all_updates bs) ≡ true → count + length (all_updates bs) ≤ MAX_ITEMS
    → (t : State) × (LeadTo s bs t × IsSound MAX_EDGES t)
leads n count s [] k w same some due few = (s, (refl, k))
leads n count s (b ∷ bs) k w same some due few =
    let d = and_parts (are_due n b) (are_due n (all_updates bs)) (sym (list_all-append (λ u. is_due n u.item) b (all_updates bs)) ∙ due) in
    let inside : All (IsInside s.graph.vertices) (items_of b) = subst (λ (m : ℕ). All (IsInside m) (items_of b)) (sym same) (inside_all n b d.0) in
    let long : length (b ++ all_updates bs) ≡ length b + length (all_updates bs) = length-append b (all_updates bs) in
    let size : length (items_of b) ≡ length b = length-map b (λ (u : Update). u.item) in
    let here = All-head (λ (c : List Update). 1 ≤ length c) b bs some in
    let small : length (items_of b) ≤ MAX_ITEMS = omega (arith, few, long, size) in
    let one = batch_has_one_state MAX_EDGES s (cleaned s.graph (items_of b)) k (cleaning_of s.graph (items_of b) inside small) in
    let t = one.0 in
    let a = one.1.0 in
    let next = within_more count s t (items_of b) k w (omega (arith, few, long)) inside (omega (arith, here, size)) small a in
    let rest = leads n (count + length (items_of b)) t bs (sound_more s t (items_of b) k (room_within count s (omega (arith, few, long)) w) inside small a) next
    (vertices_lead s t (b ∷ []) (t, (a, refl)) ∙ same) (All-tail (λ (c : List Update). 1 ≤ length c) b bs some) d.1 (omega (arith, few, long, size)) in
    (rest.0, ((t, (a, rest.1.0)), rest.1.1))
