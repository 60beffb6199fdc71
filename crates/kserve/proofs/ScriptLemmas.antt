-- Scripts that are read one after another.
use Rattle.std.proofs.Common.{ℕ, ◌≡◌, ◌≤◌, ◌<◌, ◌+◌, Bool, true, false, List, [], ◌∷◌, ◌++◌, length, refl, sym, ap, ◌∙◌, arith}
use Rattle.std.specs.Prelude.{Option, Some, None, Result, Ok, Err, OnOk, is_ok, All}
use Rattle.std.proofs.lemmas.Bool.{false≢true}
use Rattle.std.specs.Option.{option_map}
use Rattle.std.proofs.lemmas.Bool.Decides.{nat_tests}
use Rattle.std.proofs.lemmas.List.Sums.{sum_by_push}
use Rattle.std.proofs.lemmas.List.Elements.{All-nil, All-cons, All-head, All-tail, All-append}
use Rattle.kc_graph.specs.declared.items.Item.{Item}
use Rattle.kc_graph.specs.declared.items.Item.TheVariants.{Insert, Delete, Isolate}
use Rattle.kc_graph.specs.declared.limits.TheConstants.{MAX_ITEMS}
use Rattle.kc_intake.specs.declared.limits.TheConstants.{MAX_CLIENTS}
use Rattle.kc_graph.specs.Cleaning.{IsInside}
use Rattle.kc_levels.specs.declared.profile.Profile.TheVariants.{One}
use Rattle.kc_text.specs.declared.reason.Reason.{Reason}
use Rattle.kc_text.specs.declared.reason.Reason.TheVariants.{Header, LineLong, BadLine, BadVertex, TooMany, Truncated, InputLimit, EdgeLimit, PhaseLimit}
use Rattle.kc_batch.specs.declared.batch.Batch.{Batch}
use Rattle.kc_batch.specs.declared.batch.Next.{Next}
use Rattle.kc_batch.specs.declared.batch.Next.TheVariants as next
use Rattle.kc_batch.specs.Turns.{is_allowed}
use Rattle.kc_batch.specs.Batches.{behind_batch, IsBatch}
use Rattle.kc_batch.proofs.lemmas.Inputs.{step_on}
use Rattle.kserve.specs.declared.reading.Said.{Said}
use Rattle.kserve.specs.Inputs.{ScriptInput, WithScripts, Refused, rules_for, items_in, has_room, scripts_from}
use Rattle.kserve.specs.private.Fitting.{is_due}
use Rattle.kserve.specs.private.Reading.{input_as, Says}

-- what holds of an Ok holds too if only the fault was mapped
pub on_ok_mapped : {T U A B : Type 0} (r : Result T A) (m : Result U B) (x : U) (P : Type 0) → m ≡ Ok x → is_ok m ≡ is_ok r → OnOk r P → P
on_ok_mapped (Ok y) m x P was same h = h
on_ok_mapped (Err e) m x P was same h = absurd (false≢true (sym same ∙ ap is_ok was))

-- an answer for what is left is an answer for the whole
pub says : {A : Type 0} (answer : Said) (told : Option ScriptInput) (rest : Option A) → told ≡ option_map (λ _. input_as answer) rest → Says answer told
says answer told None e = rw e tt
says answer told (Some rest) e = rw e refl

-- a script for which there is room
pub told_script : (n : ℕ) (found : List (List Item)) (batch : Batch) (old new : Option (List Next)) → has_room (length found) (items_in found) (length batch.items) ≡ true → old ≡ option_map (behind_batch (next.Items batch)) new
    → option_map (scripts_from n found) old ≡ option_map (scripts_from n (found ++ batch.items ∷ [])) new
unfolding scripts_from
told_script n found batch old new room e = step_on (scripts_from n found) (scripts_from n (found ++ batch.items ∷ [])) (behind_batch (next.Items batch)) old new e (λ rest. rw room refl)

-- one for which there is none
pub told_full : (n : ℕ) (found : List (List Item)) (batch : Batch) (old new : Option (List Next)) → has_room (length found) (items_in found) (length batch.items) ≡ false → old ≡ option_map (behind_batch (next.Items batch)) new
    → option_map (scripts_from n found) old ≡ option_map (λ _. Refused batch.line TooMany) new
unfolding scripts_from
told_full n found batch old new room e = step_on (scripts_from n found) (λ _. Refused batch.line TooMany) (behind_batch (next.Items batch)) old new e (λ rest. rw room refl)

refused_first : (n : ℕ) (found : List (List Item)) (line : ℕ) (reason : Reason) (rest : List Next) → scripts_from n found (behind_batch (next.Refused line reason) rest) ≡ Refused line reason
unfolding scripts_from
refused_first n found line Header rest = refl
refused_first n found line LineLong rest = refl
refused_first n found line BadLine rest = refl
refused_first n found line BadVertex rest = refl
refused_first n found line TooMany rest = refl
refused_first n found line Truncated rest = refl
refused_first n found line InputLimit rest = refl
refused_first n found line EdgeLimit rest = refl
refused_first n found line PhaseLimit rest = refl

-- a refused block
pub told_refused : (n : ℕ) (found : List (List Item)) (line : ℕ) (reason : Reason) (old new : Option (List Next)) → old ≡ option_map (behind_batch (next.Refused line reason)) new
    → option_map (scripts_from n found) old ≡ option_map (λ _. Refused line reason) new
told_refused n found line reason old new e = step_on (scripts_from n found) (λ _. Refused line reason) (behind_batch (next.Refused line reason)) old new e (refused_first n found line reason)

-- the end
pub told_end : (n : ℕ) (found : List (List Item)) (old new : Option (List Next)) → old ≡ option_map (behind_batch next.End) new → option_map (scripts_from n found) old ≡ option_map (λ _. WithScripts n found) new
unfolding scripts_from
told_end n found old new e = step_on (scripts_from n found) (λ _. WithScripts n found) (behind_batch next.End) old new e (λ rest. refl)

due_item : (n : ℕ) (item : Item) → IsInside n item → is_allowed One item ≡ true → is_due n item ≡ true
due_item n (Insert u v) inside allowed = grind (arith, nat_tests, inside.0, inside.1)
due_item n (Delete u v) inside allowed = grind (arith, nat_tests, inside.0, inside.1)
due_item n (Isolate v) inside allowed = absurd cc

due_items : (n : ℕ) (items : List Item) → All (IsInside n) items → All (λ item. is_allowed One item ≡ true) items → All (λ item. is_due n item ≡ true) items
due_items n [] inside allowed = All-nil (λ item. is_due n item ≡ true)
due_items n (item ∷ items) inside allowed =
    All-cons (λ item. is_due n item ≡ true) item items
    (due_item n item (All-head (IsInside n) item items inside) (All-head (λ item. is_allowed One item ≡ true) item items allowed))
    (due_items n items (All-tail (IsInside n) item items inside) (All-tail (λ item. is_allowed One item ≡ true) item items allowed))

-- the items of a script are due
pub due_script : (n : ℕ) (found : List (List Item)) (batch : Batch) → IsBatch (rules_for n) batch → All (All (λ item. is_due n item ≡ true)) found → All (All (λ item. is_due n item ≡ true)) (found ++ batch.items ∷ [])
due_script n found batch b all =
    All-append (All (λ item. is_due n item ≡ true)) found (batch.items ∷ []) all
    (All-cons (All (λ item. is_due n item ≡ true)) batch.items [] (due_items n batch.items b.inside b.allowed) (All-nil (All (λ item. is_due n item ≡ true))))

-- and they are counted
pub items_more : (found : List (List Item)) (items : List Item) → items_in (found ++ items ∷ []) ≡ items_in found + length items
items_more found items = sum_by_push length found items

-- what room means
pub room_told : (scripts count more : ℕ) → has_room scripts count more ≡ true → (scripts < MAX_CLIENTS) × (count + more ≤ MAX_ITEMS)
room_told scripts count more e = (grind (arith, nat_tests, e), grind (arith, nat_tests, e))

-- the test of it, by what it was asked
pub room_as : (scripts count : ℕ) (shown : List Item) (found found_count : ℕ) (items : List Item) (asked answer : Bool) → scripts ≡ found → count ≡ found_count → shown ≡ items → asked ≡ has_room scripts count (length shown) → asked ≡ answer → has_room found found_count (length items) ≡ answer
room_as scripts count shown found found_count items asked answer a b d e f = rw (sym a, sym b, sym d) (sym e ∙ f)
