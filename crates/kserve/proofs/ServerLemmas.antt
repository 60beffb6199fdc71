-- The server, batch after batch.
use Rattle.std.proofs.Common.{ℕ, ◌≡◌, ◌≤◌, ◌<◌, ◌+◌, List, [], ◌∷◌, ◌++◌, length, refl, sym, ap, ◌∙◌, subst, arith}
use Rattle.std.specs.Prelude.{Option, Result, Ok, Err, OnOk, All, ◌&&◌}
use Rattle.std.specs.Io.KnownBytes.{append_known}
use Rattle.std.proofs.lemmas.List.Elements.{All-nil, All-push, All-append}
use Rattle.std.proofs.lemmas.List.{length-map}
use Rattle.std.proofs.lemmas.Bool.{and_right}
use Rattle.kc_text.specs.Writing.{IsPrefix}
use Rattle.kc_text.proofs.lemmas.Writing.{append_none, append_twice, prefix_longer, prefix_then}
use Rattle.kc_graph.specs.declared.limits.TheConstants.{MAX_ITEMS}
use Rattle.kc_graph.specs.Cleaning.{IsInside}
use Rattle.kc_engine.specs.States.{State}
use Rattle.kc_engine.specs.Planning.{EngineView}
use Rattle.kc_intake.specs.declared.updates.Update.{Update}
use Rattle.kc_intake.specs.Updates.{all_updates}
use Rattle.kc_intake.specs.Views.{IntakeShape, DrainerShape}
use Rattle.kc_text.specs.declared.buf.SendFault.TheVariants.{WriteFault, Memory}
use Rattle.kserve.specs.declared.fault.Stop.{Stop}
use Rattle.kserve.specs.declared.fault.Stop.TheVariants.{Fault, Stray}
use Rattle.kserve.specs.declared.limits.TheConstants.{CAPACITY}
use Rattle.kserve.specs.Batches.{start}
use Rattle.kserve.specs.private.Fitting.{are_due}
use Rattle.kserve.specs.Fitting.{items_of}
use Rattle.kserve.specs.private.Engines.{IsOpen, IsReady}
use Rattle.kserve.specs.private.Faults.{StopCause, GoesOnCause}
use Rattle.kserve.specs.Lines.{batch_text, batch_lines}
use Rattle.kserve.specs.private.Clients.{AreDrained}
use Rattle.kserve.specs.private.Serving.{TakesBatch, GoesOn, HaveServed, Serves}
use Rattle.kserve.proofs.Leads.{IsWithin, room_within, within_more, inside_all, lead_more, vertices_lead, updates_more, due_more, lines_more}

-- where the server has gone on so far, after `count` updates
abbrev pub IsRunning : {T : Type 0} → ℕ → EngineView → Result T Stop → Type 0
IsRunning count e (Ok _) = IsOpen e × IsWithin count e.state
IsRunning count e (Err stop) = Unit {0}

pub ready : {T : Type 0} (n count : ℕ) (s0 : State) (e : EngineView) (bs : List (List Update)) (before now : Option (List ℕ)) (course : Result T Stop) → s0.graph.vertices ≡ n → count ≤ MAX_ITEMS
    → Serves n s0 bs e.state before now course → IsRunning count e course → OnOk course (IsReady n e)
ready n count s0 e bs before now (Ok x) same few h r = record { open_for = r.0; vertices = vertices_lead s0 e.state bs h.lead ∙ same; room = room_within count e.state few r.1 }
ready n count s0 e bs before now (Err stop) same few h r = tt

-- the batch after those that were served
text_then : (before now later : Option (List ℕ)) (bs : List (List Update)) (b : List Update) (number : ℕ) → number ≡ 1 + length bs → now ≡ append_known before (batch_lines 1 bs) → later ≡ append_known now (batch_text number b) → later ≡ append_known before (batch_lines 1 (bs ++ b ∷ []))
text_then before now later bs b number is e f =
    append_twice before now later (batch_lines 1 bs) (batch_text number b) e f
    ∙ ap (λ ls. append_known before ls) (ap (λ k. batch_lines 1 bs ++ batch_text k b) is ∙ sym (lines_more 1 bs b))

prefix_on : (before now later : Option (List ℕ)) (bs : List (List Update)) (b : List Update) (number : ℕ) → number ≡ 1 + length bs → now ≡ append_known before (batch_lines 1 bs) → IsPrefix now later (batch_text number b) → IsPrefix before later (batch_lines 1 (bs ++ b ∷ []))
prefix_on before now later bs b number is e f =
    subst (λ (t : List ℕ). IsPrefix before later t) (ap (λ k. batch_lines 1 bs ++ batch_text k b) is ∙ sym (lines_more 1 bs b)) (prefix_then before now later (batch_lines 1 bs) (batch_text number b) e f)

-- a batch more, once the server has stopped
prefix_stays : (before now : Option (List ℕ)) (bs : List (List Update)) (b : List Update) → IsPrefix before now (batch_lines 1 bs) → IsPrefix before now (batch_lines 1 (bs ++ b ∷ []))
prefix_stays before now bs b p = subst (λ (t : List ℕ). IsPrefix before now t) (sym (lines_more 1 bs b)) (prefix_longer before now (batch_lines 1 bs) (batch_text (1 + length bs) b) p)

after_ok : {T : Type 0} (n number : ℕ) (s0 s t : State) (bs : List (List Update)) (b : List Update) (before now later : Option (List ℕ)) (result : Result T Stop) → number ≡ 1 + length bs
    → HaveServed n s0 bs s before now → TakesBatch n number b s t now later result → Serves n s0 (bs ++ b ∷ []) t before later result
after_ok n number s0 s t bs b before now later (Ok x) is h a = record {
  due = due_more n bs b ∙ (ap (λ d. d && are_due n b) h.due ∙ a.0);
  lead = lead_more s0 s t bs b h.lead a.1.0;
  taken = text_then before now later bs b number is h.taken a.1.1;
}
after_ok n number s0 s t bs b before now later (Err (Fault f)) is h a = prefix_on before now later bs b number is h.taken a
after_ok n number s0 s t bs b before now later (Err Stray) is h a = (due_more n bs b ∙ and_right (are_due n (all_updates bs)) (are_due n b) a.0, prefix_on before now later bs b number is h.taken a.1)

after_stop : (T : Type 0) (n : ℕ) (s0 s t : State) (bs : List (List Update)) (b : List Update) (before now later : Option (List ℕ)) (stop : Stop) → later ≡ now → Serves {T = T} n s0 bs s before now (Err stop) → Serves {T = T} n s0 (bs ++ b ∷ []) t before later (Err stop)
after_stop T n s0 s t bs b before now later (Fault f) e h = rw e (prefix_stays before now bs b h)
after_stop T n s0 s t bs b before now later Stray e h = (due_more n bs b ∙ ap (λ d. d && are_due n b) h.0, rw e (prefix_stays before now bs b h.1))

-- one batch more was drained
pub served_more : {T : Type 0} (n number : ℕ) (s0 s t : State) (bs : List (List Update)) (b : List Update) (before now later : Option (List ℕ)) (course result : Result T Stop) → number ≡ 1 + length bs
    → Serves n s0 bs s before now course → GoesOn n number b s t now later course result → Serves n s0 (bs ++ b ∷ []) t before later result
served_more n number s0 s t bs b before now later (Ok x) result is h g = after_ok n number s0 s t bs b before now later result is h g
served_more {T = T} n number s0 s t bs b before now later (Err stop) result is h g = rw g.0 (after_stop T n s0 s t bs b before now later stop g.1 h)

-- and the bounds
pub running_more : {T : Type 0} (n number count : ℕ) (s0 : State) (e f : EngineView) (bs : List (List Update)) (b : List Update) (before now later : Option (List ℕ)) (course result : Result T Stop) → s0.graph.vertices ≡ n → count ≤ MAX_ITEMS → 1 ≤ length b → length b ≤ CAPACITY
    → Serves n s0 bs e.state before now course → IsRunning count e course → GoesOn n number b e.state f.state now later course result → OnOk result (IsOpen f) → IsRunning (count + length b) f result
running_more n number count s0 e f bs b before now later (Err stop) result same few some less h r g o = rw g.0 tt
running_more n number count s0 e f bs b before now later (Ok x) (Err stop) same few some less h r g o = tt
running_more n number count s0 e f bs b before now later (Ok x) (Ok y) same few some less h r g o =
    let vertices : e.state.graph.vertices ≡ n = vertices_lead s0 e.state bs h.lead ∙ same in
    let size : length (items_of b) ≡ length b = length-map b (λ (u : Update). u.item) in
    let inside = subst (λ (m : ℕ). All (IsInside m) (items_of b)) (sym vertices) (inside_all n b g.0) in
    let w = within_more count e.state f.state (items_of b) r.0.sound r.1 few inside (omega (arith, size, some)) (omega (arith, size, less)) g.1.0 in
    (o, subst (λ (m : ℕ). IsWithin m f.state) (ap (λ m. count + m) size) w)

-- before the first drain
pub none_served : {T : Type 0} (n : ℕ) (s : State) (bs : List (List Update)) (t : State) (before now : Option (List ℕ)) (first : T) → bs ≡ [] → t ≡ s → now ≡ before → Serves n s bs t before now (Ok first)
none_served n s bs t before now first e f h = rw e (record { due = refl; lead = f; taken = h ∙ append_none before })

pub none_within : (n : ℕ) (s : State) → s ≡ start n → IsWithin 0 s
none_within n s e = subst (λ (z : State). IsWithin 0 z) (sym e) (record { edges = omega arith; phases = omega arith })

pub none_drained : (intake : IntakeShape) (d : DrainerShape) → d.intake ≡ intake → d.taken ≡ [] → AreDrained intake d d
none_drained intake d e f = record {
  intake_is = e;
  clients_are = refl;
  sizes = rw f (All-nil (λ batch. (1 ≤ length batch) × (length batch ≤ intake.capacity)));
  clients = rw f (All-nil (λ u. u.client < d.clients));
}

-- a drain of a batch
pub drained_more : (intake : IntakeShape) (first old new : DrainerShape) → AreDrained intake first old → new ≡ record old { batch = new.batch; taken = old.taken ++ new.batch ∷ [] } → (1 ≤ length new.batch) × (length new.batch ≤ intake.capacity) → All (λ u. u.client < new.clients) new.batch
    → AreDrained intake first new
drained_more intake first old new d e size clients =
    let taken : new.taken ≡ old.taken ++ new.batch ∷ [] = ap (λ (z : DrainerShape). z.taken) e in
    let many : new.clients ≡ first.clients = ap (λ (z : DrainerShape). z.clients) e ∙ d.clients_are in
    record {
      intake_is = ap (λ (z : DrainerShape). z.intake) e ∙ d.intake_is;
      clients_are = many;
      sizes = subst (λ (bs : List (List Update)). All (λ batch. (1 ≤ length batch) × (length batch ≤ intake.capacity)) bs) (sym taken) (All-push (λ batch. (1 ≤ length batch) × (length batch ≤ intake.capacity)) old.taken new.batch d.sizes size);
      clients = subst (λ (us : List Update). All (λ u. u.client < first.clients) us) (sym (ap (λ bs. all_updates bs) taken ∙ updates_more old.taken new.batch))
          (All-append (λ u. u.client < first.clients) (all_updates old.taken) new.batch d.clients (subst (λ (k : ℕ). All (λ u. u.client < k) new.batch) many clients));
    }

pub served_same : {T : Type 0} (n : ℕ) (s : State) (bs cs : List (List Update)) (t : State) (before now : Option (List ℕ)) (course : Result T Stop) → cs ≡ bs → Serves n s bs t before now course → Serves n s cs t before now course
served_same n s bs cs t before now course e h = rw e h

-- of the count of faults
stays : (T : Type 0) (first now later : ℕ) (stop : Stop) → later ≡ now → StopCause {T = T} first now (Err stop) → StopCause {T = T} first later (Err stop)
stays T first now later (Fault WriteFault) e c = rw e c
stays T first now later (Fault (Memory m)) e c = e ∙ c
stays T first now later Stray e c = e ∙ c

rises : {T : Type 0} (first now later : ℕ) (result : Result T Stop) → now ≡ first → StopCause now later result → StopCause first later result
rises first now later (Ok y) e c = c ∙ e
rises first now later (Err (Fault WriteFault)) e c = rw (sym e) c
rises first now later (Err (Fault (Memory m))) e c = c ∙ e
rises first now later (Err Stray) e c = c ∙ e

pub cause_on : {T : Type 0} (n number : ℕ) (b : List Update) (s t : State) (first now later : ℕ) (taken0 taken1 : Option (List ℕ)) (course result : Result T Stop) → StopCause first now course → GoesOnCause now later course result
    → GoesOn n number b s t taken0 taken1 course result → StopCause first later result
cause_on n number b s t first now later taken0 taken1 (Ok x) result c g o = rises first now later result c g
cause_on {T = T} n number b s t first now later taken0 taken1 (Err stop) result c g o = rw o.0 (stays T first now later stop g c)

pub running_as : {T : Type 0} (count other : ℕ) (e : EngineView) (course : Result T Stop) → other ≡ count → IsRunning count e course → IsRunning other e course
running_as count other e course same r = rw same r
