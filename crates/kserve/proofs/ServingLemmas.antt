-- The texts of scripts that are served.
use Rattle.std.proofs.Common.{ℕ, ◌≡◌, ◌≤◌, Bool, true, false, List, [], ◌∷◌, ◌++◌, length, refl, sym, ap, ◌∙◌, subst, arith}
use Rattle.std.specs.Prelude.{Option, Some, None, Result, Ok, Err, All, if◌then◌else◌}
use Rattle.std.specs.Io.KnownBytes.{append_known}
use Rattle.std.specs.Option.{option_map}
use Rattle.std.proofs.lemmas.Bool.{false≢true}
use Rattle.std.proofs.lemmas.List.Elements.{All-nil, All-head, All-tail}
use Rattle.kc_text.specs.declared.buf.SendFault.{SendFault}
use Rattle.kc_text.specs.declared.buf.SendFault.TheVariants as send
use Rattle.kc_text.specs.declared.reason.Reason.{Reason}
use Rattle.kc_text.specs.declared.line.Line.{Line}
use Rattle.kc_text.specs.declared.reason.Reason.TheVariants.{Header, TooMany}
use Rattle.kc_text.specs.Lines.{lines}
use Rattle.kc_text.specs.Words.{words}
use Rattle.kc_text.specs.Writing.{IsPrefix, Appends, WriteCause}
use Rattle.kc_text.specs.Kept.{kept, text_of}
use Rattle.kc_text.proofs.lemmas.Writing.{append_twice, prefix_none, prefix_longer, prefix_then}
use Rattle.kc_graph.specs.declared.items.Item.{Item}
use Rattle.kc_graph.specs.declared.limits.TheConstants.{MAX_EDGES}
use Rattle.kc_levels.specs.declared.profile.Profile.{Profile}
use Rattle.kc_levels.specs.declared.profile.Profile.TheVariants.{One}
use Rattle.kc_levels.specs.LevelList.{MeetsBoth}
use Rattle.kc_batch.specs.declared.batch.Next.{Next}
use Rattle.kc_batch.specs.declared.batch.Next.TheVariants as next
use Rattle.kc_batch.specs.Headers.{vertices_in}
use Rattle.kc_batch.specs.Tokens.{tokens}
use Rattle.kc_batch.specs.Batches.{batches, IsNext}
use Rattle.kc_batch.proofs.lemmas.Inputs.{batches_keep_ranges}
use Rattle.kc_report.specs.VertexLines.{tail_text}
use Rattle.kc_engine.specs.States.{State, IsSound}
use Rattle.kc_intake.specs.declared.updates.Update.{Update}
use Rattle.kc_intake.specs.Updates.{all_updates}
use Rattle.kc_intake.specs.Views.{IntakeShape, ClientShape, DrainerShape}
use Rattle.kserve.specs.private.Clients.{HaveEnded, AreTakenIn, AreDrained}
use Rattle.kserve.specs.declared.fault.Stop.{Stop}
use Rattle.kserve.specs.declared.fault.Stop.TheVariants as stop
use Rattle.kserve.specs.declared.reading.Said.{Said}
use Rattle.kserve.specs.declared.reading.Said.TheVariants as said
use Rattle.kserve.specs.declared.scripts.Scripts.{Scripts}
use Rattle.kc_shell.specs.declared.status.Status.{Status}
use Rattle.kc_shell.specs.declared.status.Status.TheVariants as status
use Rattle.kserve.specs.declared.limits.TheConstants.{CAPACITY, LINE_LIMIT, INPUT_LIMIT}
use Rattle.kserve.specs.declared.head.Head.{Head}
use Rattle.kserve.specs.declared.head.Head.TheVariants as head
use Rattle.kserve.specs.Batches.{start, LeadTo}
use Rattle.kserve.specs.private.Fitting.{is_due, are_due}
use Rattle.kserve.specs.Fitting.{Fit}
use Rattle.kserve.specs.Inputs.{ScriptInput, WithScripts, Refused, rules_for, items_in, has_room, scripts_from, after_head, head_of, after_magic, input_from, is_magic, input_said}
use Rattle.kc_shell.specs.Statuses.{HasCause}
use Rattle.kserve.specs.Lines.{head_text, batch_lines, refused_line}
use Rattle.kserve.specs.private.Ending.{status_after}
use Rattle.kserve.specs.private.Reading.{input_as, Says}
use Rattle.kserve.specs.Served.{served_text, IsServed, IsTextOf, WritesWhole, WritesPrefix, Wrote, Answers}
use Rattle.kserve.specs.private.Served.{Writes}
use Rattle.kserve.specs.private.Serving.{HaveServed, Serves, HaveServedAll, StoppedServing}
use Rattle.kc_engine.proofs.lemmas.Batches.{start_is_sound}
use Rattle.kserve.proofs.Fitting.{CanServe, fit_due, fit_count, drained_fit, some_fit}
use Rattle.kserve.proofs.Leads.{leads, profile_lead}
use Rattle.kserve.proofs.ScriptLemmas.{due_script, items_more, room_told}

-- so they lead somewhere
pub fit_leads : (n : ℕ) (scripts : List (List Item)) (bs : List (List Update)) → CanServe n scripts → Fit scripts bs → (t : State) × (LeadTo (start n) bs t × IsSound MAX_EDGES t)
fit_leads n scripts bs a f =
    let count = fit_count scripts bs f in
    leads n 0 (start n) bs (start_is_sound One n 0 MAX_EDGES (omega arith)) (record { edges = omega arith; phases = omega arith }) refl
    (λ i d lt. (f.sizes i d lt).0) (fit_due n scripts bs a f) (omega (arith, count, a.few_items))

-- batches that fit have a text
pub fit_served : (n : ℕ) (scripts : List (List Item)) (bs : List (List Update)) (fit : Fit scripts bs) (t : State) → LeadTo (start n) bs t → IsSound MAX_EDGES t → IsServed n scripts (served_text n bs t)
fit_served n scripts bs fit t lead k = record {
  batches = bs;
  fit = fit;
  last = t;
  leads = lead;
  both = subst (λ (p : Profile). MeetsBoth p t.graph t.levels) (profile_lead (start n) t bs lead) k.both;
  text_is = refl;
}

-- scripts that can be served have a text
pub some_served : (n : ℕ) (scripts : List (List Item)) → CanServe n scripts → (text : List ℕ) × IsServed n scripts text
some_served n scripts a =
    let there = some_fit scripts in
    let led = fit_leads n scripts there.0 a there.1 in
    (served_text n there.0 led.0, fit_served n scripts there.0 there.1 led.0 led.1.0 led.1.1)

-- nothing was written of it
pub unwritten : (n : ℕ) (scripts : List (List Item)) (before now : Option (List ℕ)) → CanServe n scripts → now ≡ before → WritesPrefix (IsServed n scripts) before now
unwritten n scripts before now a e = let there = some_served n scripts a in record { text = there.0; is_text = there.1; prefix = prefix_none before now there.0 e }

-- a prefix of the head
pub head_stopped : (n : ℕ) (scripts : List (List Item)) (before now : Option (List ℕ)) → CanServe n scripts → IsPrefix before now (head_text n) → WritesPrefix (IsServed n scripts) before now
head_stopped n scripts before now a p =
    let there = some_served n scripts a in
    record { text = there.0; is_text = there.1; prefix = subst (λ (t : List ℕ). IsPrefix before now t) (sym there.1.text_is) (prefix_longer before now (head_text n) (batch_lines 1 there.1.batches ++ tail_text One there.1.last.graph there.1.last.levels) p) }

-- the head, and a prefix of the batches
pub batches_stopped : (n : ℕ) (scripts : List (List Item)) (before now later : Option (List ℕ)) → CanServe n scripts → now ≡ append_known before (head_text n) → StoppedServing scripts now later → WritesPrefix (IsServed n scripts) before later
batches_stopped n scripts before now later a e s =
    let led = fit_leads n scripts s.batches a s.fit in
    record {
      text = served_text n s.batches led.0;
      is_text = fit_served n scripts s.batches s.fit led.0 led.1.0 led.1.1;
      prefix = prefix_then before now later (head_text n) (batch_lines 1 s.batches ++ tail_text One led.0.graph led.0.levels) e (prefix_longer now later (batch_lines 1 s.batches) (tail_text One led.0.graph led.0.levels) s.prefix);
    }

-- the head, the batches, and a prefix of the lines after them
tail_stopped : (n : ℕ) (scripts : List (List Item)) (t : State) (before now later last : Option (List ℕ)) → IsSound MAX_EDGES t → now ≡ append_known before (head_text n) → HaveServedAll n scripts t now later
    → IsPrefix later last (tail_text t.profile t.graph t.levels) → WritesPrefix (IsServed n scripts) before last
tail_stopped n scripts t before now later last k e s p =
    let profile : t.profile ≡ One = profile_lead (start n) t s.batches s.lead in
    record {
      text = served_text n s.batches t;
      is_text = fit_served n scripts s.batches s.fit t s.lead k;
      prefix = prefix_then before now last (head_text n) (batch_lines 1 s.batches ++ tail_text One t.graph t.levels) e
          (prefix_then now later last (batch_lines 1 s.batches) (tail_text One t.graph t.levels) s.taken (subst (λ (q : Profile). IsPrefix later last (tail_text q t.graph t.levels)) profile p));
    }

-- all of it
served_whole : (n : ℕ) (scripts : List (List Item)) (t : State) (before now later last : Option (List ℕ)) → IsSound MAX_EDGES t → now ≡ append_known before (head_text n) → HaveServedAll n scripts t now later
    → last ≡ append_known later (tail_text t.profile t.graph t.levels) → WritesWhole (IsServed n scripts) before last
served_whole n scripts t before now later last k e s p =
    let profile : t.profile ≡ One = profile_lead (start n) t s.batches s.lead in
    record {
      text = served_text n s.batches t;
      is_text = fit_served n scripts s.batches s.fit t s.lead k;
      taken = append_twice before now last (head_text n) (batch_lines 1 s.batches ++ tail_text One t.graph t.levels) e
          (append_twice now later last (batch_lines 1 s.batches) (tail_text One t.graph t.levels) s.taken (p ∙ ap (λ q. append_known later (tail_text q t.graph t.levels)) profile));
    }

-- the head, the batches, and the lines after them, or after a fault a prefix of these
pub tail_written : (U : Type 0) (n : ℕ) (scripts : List (List Item)) (t : State) (before now later last : Option (List ℕ)) (r : Result U SendFault) → IsSound MAX_EDGES t → now ≡ append_known before (head_text n) → HaveServedAll n scripts t now later
    → Appends later last (tail_text t.profile t.graph t.levels) r → Writes n scripts before last r
tail_written U n scripts t before now later last (Ok x) k e s p = served_whole n scripts t before now later last k e s p
tail_written U n scripts t before now later last (Err f) k e s p = tail_stopped n scripts t before now later last k e s p

-- what can be said of an input's scripts
abbrev pub CanServeInput : ScriptInput → Type 0
CanServeInput (WithScripts n scripts) = CanServe n scripts
CanServeInput (Refused line reason) = Unit {0}

can_serve_from : (n : ℕ) (found : List (List Item)) (bs : List Next) → All (IsNext (rules_for n)) bs → CanServe n found → CanServeInput (scripts_from n found bs)
unfolding scripts_from
can_serve_from n found [] all a = a
can_serve_from n found (next.Items batch ∷ bs) all a =
    go (has_room (length found) (items_in found) (length batch.items)) (λ e. can_serve_from n (found ++ batch.items ∷ []) bs (All-tail (IsNext (rules_for n)) (next.Items batch) bs all) record {
      due = due_script n found batch (All-head (IsNext (rules_for n)) (next.Items batch) bs all) a.due;
      few_items = let more = items_more found batch.items in let room = room_told (length found) (items_in found) (length batch.items) e in omega (arith, more, room.1);
    }) refl
  where
    go : (b : Bool) → (b ≡ true → CanServeInput (scripts_from n (found ++ batch.items ∷ []) bs)) → has_room (length found) (items_in found) (length batch.items) ≡ b
        → CanServeInput (if b then scripts_from n (found ++ batch.items ∷ []) bs else Refused batch.line TooMany)
    go true h e = h refl
    go false h e = tt
can_serve_from n found (next.Refused line reason ∷ bs) all a = tt
can_serve_from n found (next.End ∷ bs) all a = a

head_can_serve : (h : Head) (ls : List Line) → CanServeInput (after_head h ls)
head_can_serve (head.Vertices n) ls = can_serve_from n [] (batches (rules_for n) (tokens ls)) (batches_keep_ranges (rules_for n) (tokens ls)) (record { due = All-nil (All (λ item. is_due n item ≡ true)); few_items = omega arith })
head_can_serve (head.Refused line) ls = tt

magic_can_serve : (ls : List Line) → CanServeInput (after_magic ls)
unfolding after_magic
magic_can_serve [] = tt
magic_can_serve (line ∷ ls) = head_can_serve (head_of line.number (vertices_in (words (text_of line.body)))) ls

pub input_can_serve : (ls : List Line) → CanServeInput (input_from ls)
unfolding input_from
input_can_serve [] = tt
input_can_serve (line ∷ ls) = go (is_magic (words (text_of line.body)))
  where
    go : (b : Bool) → CanServeInput (if b then after_magic ls else Refused line.number Header)
    go true = magic_can_serve ls
    go false = tt

-- each input has a text
pub some_text : (input : ScriptInput) → CanServeInput input → (text : List ℕ) × IsTextOf input text
some_text (WithScripts n scripts) a = some_served n scripts a
some_text (Refused line reason) a = (refused_line line reason, refl)

-- what the server has done, as what is served of the scripts
pub served_all : (n : ℕ) (scripts : List (List Item)) (bs : List (List Update)) (t : State) (before now : Option (List ℕ)) → Fit scripts bs → HaveServed n (start n) bs t before now → HaveServedAll n scripts t before now
served_all n scripts bs t before now fit h = record { batches = bs; fit = fit; lead = h.lead; taken = h.taken }

pub stopped_all : (scripts : List (List Item)) (bs : List (List Update)) (before now : Option (List ℕ)) → Fit scripts bs → IsPrefix before now (batch_lines 1 bs) → StoppedServing scripts before now
stopped_all scripts bs before now fit p = record { batches = bs; fit = fit; prefix = p }

-- nothing was printed
pub stopped_early : (scripts : List (List Item)) (before now : Option (List ℕ)) → now ≡ before → StoppedServing scripts before now
stopped_early scripts before now e = let there = some_fit scripts in record { batches = there.0; fit = there.1; prefix = prefix_none before now (batch_lines 1 there.0) e }

-- no update strays from the scripts
pub none_strays : (n : ℕ) (scripts : List (List Item)) (bs : List (List Update)) → CanServe n scripts → Fit scripts bs → are_due n (all_updates bs) ≡ false → ⊥
none_strays n scripts bs a fit e = false≢true (sym e ∙ fit_due n scripts bs a fit)

-- an input that is read
pub answered : (left : Option (List ℕ)) (before now : Option (List ℕ)) (status : Status) → ((bytes : List ℕ) → left ≡ Some bytes → Wrote (input_said bytes) before now status) → Answers left before now status
answered None before now status h = tt
answered (Some bytes) before now status h = h bytes refl

said_as : (left : Option (List ℕ)) (bytes : List ℕ) (answer : Said) → left ≡ Some bytes → Says answer (option_map input_said left) → input_said bytes ≡ input_as answer
said_as left bytes answer e h = subst (λ (l : Option (List ℕ)). Says answer (option_map input_said l)) e h

-- nothing was written, whatever the input says
pub nothing_written : (left before now : Option (List ℕ)) → now ≡ before → Answers left before now status.Memory
nothing_written left before now e = answered left before now status.Memory (λ bytes same.
    let there = some_text (input_said bytes) (input_can_serve (kept (lines LINE_LIMIT INPUT_LIMIT bytes))) in
    record { text = there.0; is_text = there.1; prefix = prefix_none before now there.0 e })

-- a text of scripts was
whole_written : (left before now : Option (List ℕ)) (s : Scripts) → Says (said.Accepted s) (option_map input_said left) → WritesWhole (IsServed s.n s.scripts.items) before now → Answers left before now status.Done
whole_written left before now s h w = answered left before now status.Done (λ bytes same.
    subst (λ (input : ScriptInput). Wrote input before now status.Done) (sym (said_as left bytes (said.Accepted s) same h)) (tt, w))

-- or a prefix of one
prefix_written : (left before now : Option (List ℕ)) (s : Scripts) → Says (said.Accepted s) (option_map input_said left) → WritesPrefix (IsServed s.n s.scripts.items) before now
    → (bytes : List ℕ) → left ≡ Some bytes → WritesPrefix (IsTextOf (input_said bytes)) before now
prefix_written left before now s h w bytes same =
    subst (λ (input : ScriptInput). WritesPrefix (IsTextOf input) before now) (sym (said_as left bytes (said.Accepted s) same h)) w

-- a text of scripts was written, or after a fault a prefix of one
pub scripts_written : (U : Type 0) (left before now : Option (List ℕ)) (s : Scripts) (r : Result U SendFault) → Says (said.Accepted s) (option_map input_said left) → Writes s.n s.scripts.items before now r
    → Answers left before now (status_after status.Done r)
scripts_written U left before now s (Ok x) h w = whole_written left before now s h w
scripts_written U left before now s (Err send.WriteFault) h w = answered left before now status.WriteFault (prefix_written left before now s h w)
scripts_written U left before now s (Err (send.Memory m)) h w = answered left before now status.Memory (prefix_written left before now s h w)

-- the line of an input that is refused was written, or after a fault a prefix of it
pub refusal_written : (U : Type 0) (left before now : Option (List ℕ)) (line : ℕ) (reason : Reason) (r : Result U SendFault) → Says (said.Refused line reason) (option_map input_said left) → Appends before now (refused_line line reason) r
    → Answers left before now (status_after status.Refused r)
refusal_written U left before now line reason (Ok x) h e = answered left before now status.Refused (λ bytes same.
    subst (λ (input : ScriptInput). Wrote input before now status.Refused) (sym (said_as left bytes (said.Refused line reason) same h)) (tt, record { text = refused_line line reason; is_text = refl; taken = e }))
refusal_written U left before now line reason (Err send.WriteFault) h p = answered left before now status.WriteFault (λ bytes same.
    subst (λ (input : ScriptInput). WritesPrefix (IsTextOf input) before now) (sym (said_as left bytes (said.Refused line reason) same h)) (record { text = refused_line line reason; is_text = refl; prefix = p }))
refusal_written U left before now line reason (Err (send.Memory m)) h p = answered left before now status.Memory (λ bytes same.
    subst (λ (input : ScriptInput). WritesPrefix (IsTextOf input) before now) (sym (said_as left bytes (said.Refused line reason) same h)) (record { text = refused_line line reason; is_text = refl; prefix = p }))

-- the input couldn't be read
pub unread : (left before now : Option (List ℕ)) → now ≡ before → Answers left before now status.ReadFault
unread left before now e = answered left before now status.ReadFault (λ bytes same. e)

-- a fault in writing has its cause, and the source is as it was
pub done_cause : (U : Type 0) (r0 r1 w0 w1 : ℕ) (r : Result U SendFault) → r1 ≡ r0 → WriteCause w0 w1 r → HasCause r0 r1 w0 w1 (status_after status.Done r)
done_cause U r0 r1 w0 w1 (Ok x) e c = (e, c)
done_cause U r0 r1 w0 w1 (Err send.WriteFault) e c = (e, c)
done_cause U r0 r1 w0 w1 (Err (send.Memory m)) e c = (e, c)

pub refused_cause : (U : Type 0) (r0 r1 w0 w1 : ℕ) (r : Result U SendFault) → r1 ≡ r0 → WriteCause w0 w1 r → HasCause r0 r1 w0 w1 (status_after status.Refused r)
refused_cause U r0 r1 w0 w1 (Ok x) e c = (e, c)
refused_cause U r0 r1 w0 w1 (Err send.WriteFault) e c = (e, c)
refused_cause U r0 r1 w0 w1 (Err (send.Memory m)) e c = (e, c)

-- what was drained fits the scripts, once all clients have ended and were taken in
pub drained_scripts : (scripts : List (List Item)) (count : ℕ) (intake : IntakeShape) (old new : DrainerShape) (clients : List ClientShape) → intake.capacity ≡ CAPACITY → old.clients ≡ length scripts → count ≡ items_in scripts
    → AreDrained intake old new → HaveEnded intake scripts clients → AreTakenIn new.taken clients → count ≤ length (all_updates new.taken) → Fit scripts new.taken
drained_scripts scripts count intake old new clients capacity many all d e t enough = drained_fit scripts intake old new clients capacity many d e t (omega (arith, enough, all))

-- once the server stopped, a prefix was printed
pub prefix_of_stop : (T : Type 0) (n : ℕ) (s : State) (bs : List (List Update)) (t : State) (before now : Option (List ℕ)) (stop : Stop) → Serves {T = T} n s bs t before now (Err stop) → IsPrefix before now (batch_lines 1 bs)
prefix_of_stop T n s bs t before now (stop.Fault f) h = h
prefix_of_stop T n s bs t before now stop.Stray h = h.1

-- it didn't stop for an item that strayed
pub no_stray : (T : Type 0) (n : ℕ) (scripts : List (List Item)) (bs : List (List Update)) (t : State) (before now : Option (List ℕ)) (why : Stop) → CanServe n scripts → Fit scripts bs → Serves {T = T} n (start n) bs t before now (Err why) → why ≡ stop.Stray → ⊥
no_stray T n scripts bs t before now (stop.Fault f) a fit h e = absurd cc
no_stray T n scripts bs t before now stop.Stray a fit h e = none_strays n scripts bs a fit h.0
