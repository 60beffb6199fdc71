-- Batches one after another: their states, and the text of their lines while they are read.
use Rattle.std.proofs.Common.{ℕ, ◌≡◌, ◌<◌, ◌≤◌, ◌+◌, ◌^◌, Bool, true, false, List, [], ◌∷◌, ◌++◌, length, append_assoc, refl, sym, ap, ◌∙◌, subst, arith, length-append}
use Rattle.std.specs.Prelude.{Option, Some, None, All, Err, Ok}
use Rattle.std.specs.Option.{option_map}
use Rattle.std.proofs.lemmas.Option.{same_Some}
use Rattle.std.proofs.lemmas.List.{append-nil}
use Rattle.std.proofs.lemmas.List.Sums.{sum_by_push}
use Rattle.std.proofs.lemmas.List.Elements.{All-head, All-tail}
use Rattle.std.proofs.lemmas.Bool.Decides.{nat_tests}
use Rattle.kc_text.specs.declared.reason.Reason.TheVariants.{Header, LineLong, BadLine, BadVertex, TooMany, Truncated, InputLimit, EdgeLimit, PhaseLimit}
use Rattle.kc_text.specs.Reading.{Reading}
use Rattle.kc_text.specs.Writing.{IsPrefix}
use Rattle.kc_text.proofs.lemmas.Writing.{append_none, append_twice, prefix_none, prefix_longer, prefix_then}
use Rattle.kc_batch.specs.declared.rules.Rules.{Rules}
use Rattle.kc_batch.specs.declared.token.Token.{Token}
use Rattle.kc_batch.specs.declared.batch.Next.{Next}
use Rattle.kc_batch.specs.declared.batch.Next.TheVariants.{Items, Refused, End}
use Rattle.kc_batch.specs.HeaderShape.{HeaderShape}
use Rattle.kc_batch.specs.BatchInputs.{rules_of}
use Rattle.kc_batch.specs.Batches.{batches, batches_left, behind_batch, IsNext, IsEnd, TakesBatch}
use Rattle.kc_batch.proofs.lemmas.Inputs.{batches_keep_ranges}
use Rattle.kc_graph.specs.declared.limits.TheConstants.{MAX_EDGES, MAX_ITEMS}
use Rattle.kc_history.specs.declared.entries.Entry.{Entry}
use Rattle.kc_groups.specs.Entries.{entries_in}
use Rattle.kc_engine.specs.States.{State, IsSound}
use Rattle.kc_session.specs.declared.counts.Counts.{Counts}
use Rattle.kc_session.specs.declared.report.Report.{Report}
use Rattle.kc_session.specs.declared.fault.SessionFault.{SessionFault}
use Rattle.kc_session.specs.private.Audiences.{longer}
use Rattle.kc_session.specs.Counts.{one_if, refused_in}
use Rattle.kc_session.specs.private.Counts.{counts_of, counted}
use Rattle.kc_session.specs.States.{Step, AreSteps, last_state, history_of, is_refused}
use Rattle.kc_session.specs.RunText.{step_text, batch_lines}
use Rattle.kc_session.specs.private.Running.{is_last_batch, RanStep, WroteSome, RunsStep, RanBatches, RunsBatches}
use Rattle.kc_session.specs.Running.{WroteSomeBatches}
use Rattle.kc_session.proofs.CountLemmas.{capped_more, counts_same}
use Rattle.kc_session.proofs.Longer.{longer_none, longer_twice}
use Rattle.kc_session.proofs.Steps.{some_step, sound_step, profile_step, one_step}

-- any batches have steps
pub some_states : (header : HeaderShape) (s : State) (bs : List Next) → IsSound MAX_EDGES s → s.graph.vertices ≡ header.n → All (IsNext (rules_of header MAX_ITEMS)) bs → (ts : List Step) × AreSteps s bs ts
some_states header s [] k e all = ([], tt)
some_states header s (b ∷ bs) k e all =
    let i = All-head (IsNext (rules_of header MAX_ITEMS)) b bs all in
    let one = some_step s header b k e i in
    let x = sound_step s header b one.0 k e i one.1 in
    let rest = some_states header one.0.state bs x.0 x.1 (All-tail (IsNext (rules_of header MAX_ITEMS)) b bs all) in
    (one.0 ∷ rest.0, (one.1, rest.1))

-- any batches have only one list of steps
pub one_run : (header : HeaderShape) (s : State) (bs : List Next) (ts us : List Step) → IsSound MAX_EDGES s → s.graph.vertices ≡ header.n → All (IsNext (rules_of header MAX_ITEMS)) bs → AreSteps s bs ts → AreSteps s bs us → ts ≡ us
one_run header s [] [] [] k e all a b = refl
one_run header s [] [] (u ∷ us) k e all a b = absurd b
one_run header s [] (t ∷ ts) us k e all a b = absurd a
one_run header s (b ∷ bs) [] us k e all x y = absurd x
one_run header s (b ∷ bs) (t ∷ ts) [] k e all x y = absurd y
one_run header s (b ∷ bs) (t ∷ ts) (u ∷ us) k e all x y =
    let i = All-head (IsNext (rules_of header MAX_ITEMS)) b bs all in
    let same : t ≡ u = one_step s header b t u k e i x.0 y.0 in
    let z = sound_step s header b t k e i x.0 in
    let rest : ts ≡ us = one_run header t.state bs ts us z.0 z.1 (All-tail (IsNext (rules_of header MAX_ITEMS)) b bs all) x.1 (subst (λ (w : Step). AreSteps w.state bs us) (sym same) y.1) in
    rw (same, rest) refl

-- the state after all batches is sound too, with as many vertices
pub sound_last : (header : HeaderShape) (s : State) (bs : List Next) (ts : List Step) → IsSound MAX_EDGES s → s.graph.vertices ≡ header.n → All (IsNext (rules_of header MAX_ITEMS)) bs → AreSteps s bs ts
    → IsSound MAX_EDGES (last_state s ts) × ((last_state s ts).graph.vertices ≡ header.n)
sound_last header s bs [] k e all a = (k, e)
sound_last header s [] (t ∷ ts) k e all a = absurd a
sound_last header s (b ∷ bs) (t ∷ ts) k e all a =
    let z = sound_step s header b t k e (All-head (IsNext (rules_of header MAX_ITEMS)) b bs all) a.0 in
    sound_last header t.state bs ts z.0 z.1 (All-tail (IsNext (rules_of header MAX_ITEMS)) b bs all) a.1

-- the state after all batches has the same profile
pub profile_last : (s : State) (bs : List Next) (ts : List Step) → AreSteps s bs ts → (last_state s ts).profile ≡ s.profile
profile_last s bs [] a = refl
profile_last s [] (t ∷ ts) a = absurd a
profile_last s (b ∷ bs) (t ∷ ts) a = profile_last t.state bs ts a.1 ∙ profile_step s b t a.0

-- batches, and others after them
pub last_append : (s : State) (ts us : List Step) → last_state s (ts ++ us) ≡ last_state (last_state s ts) us
last_append s [] us = refl
last_append s (t ∷ ts) us = last_append t.state ts us

pub steps_append : (s : State) (bs cs : List Next) (ts us : List Step) → AreSteps s bs ts → AreSteps (last_state s ts) cs us → AreSteps s (bs ++ cs) (ts ++ us)
steps_append s [] cs [] us a b = b
steps_append s [] cs (t ∷ ts) us a b = absurd a
steps_append s (b ∷ bs) cs [] us a e = absurd a
steps_append s (b ∷ bs) cs (t ∷ ts) us a e = (a.0, steps_append t.state bs cs ts us a.1 e)

lines_append : (report : Report) (k : ℕ) (s : State) (bs cs : List Next) (ts us : List Step) → AreSteps s bs ts
    → batch_lines report k s (bs ++ cs) (ts ++ us) ≡ batch_lines report k s bs ts ++ batch_lines report (k + length ts) (last_state s ts) cs us
lines_append report k s [] cs [] us a = let e : k ≡ k + 0 = omega arith in ap (λ j. batch_lines report j s cs us) e
lines_append report k s [] cs (t ∷ ts) us a = absurd a
lines_append report k s (b ∷ bs) cs [] us a = absurd a
lines_append report k s (b ∷ bs) cs (t ∷ ts) us a = grind (arith, nat_tests, lines_append report (k + 1) t.state bs cs ts us a.1, append_assoc, a.1)

history_append : (ts us : List Step) → history_of (ts ++ us) ≡ history_of ts ++ history_of us
history_append [] us = refl
history_append (t ∷ ts) us = ap (λ (es : List Entry). entries_in t.phases ++ es) (history_append ts us) ∙ sym (append_assoc (entries_in t.phases) (history_of ts) (history_of us))

-- the history after one more batch
history_step : (ts : List Step) (t : Step) (h i j : Option (List Entry)) → i ≡ longer h (history_of ts) → j ≡ longer i (entries_in t.phases) → j ≡ longer h (history_of (ts ++ t ∷ []))
history_step ts t h i j e f =
    longer_twice h i j (history_of ts) (entries_in t.phases) e f
    ∙ ap (λ (es : List Entry). longer h es) (ap (λ (es : List Entry). history_of ts ++ es) (sym (append-nil (entries_in t.phases))) ∙ sym (history_append ts (t ∷ [])))

refused_append : (s : State) (bs cs : List Next) (ts us : List Step) → AreSteps s bs ts → refused_in s (bs ++ cs) (ts ++ us) ≡ refused_in s bs ts + refused_in (last_state s ts) cs us
refused_append s [] cs [] us a = omega arith
refused_append s [] cs (t ∷ ts) us a = absurd a
refused_append s (b ∷ bs) cs [] us a = absurd a
refused_append s (b ∷ bs) cs (t ∷ ts) us a = let rest = refused_append t.state bs cs ts us a.1 in omega (arith, rest)

counts_step : (s : State) (bs : List Next) (ts : List Step) (b : Next) (t : Step) (old new : Counts) → AreSteps s bs ts → old ≡ counts_of s bs ts → new ≡ counted (last_state s ts) b t old → new ≡ counts_of s (bs ++ b ∷ []) (ts ++ t ∷ [])
counts_step s bs ts b t old new a e f = grind (arith, nat_tests, length-append, refused_append, capped_more, counts_same, sum_by_push)

-- the first batches were run; bs are the others, and s is the state before them
pub record Leads (report : Report) (s0 : State) (bs0 : List Next) (s : State) (bs : List Next) (before now : Option (List ℕ)) (h i : Option (List Entry)) (counts : Counts) : Type 0 where
  pub done : List Next
  pub all : bs0 ≡ done ++ bs
  pub ran : RanBatches report s0 s done before now h i counts

leads_step : (report : Report) (s0 : State) (bs0 : List Next) (s t : State) (b : Next) (bs : List Next) (before now later : Option (List ℕ)) (h i j : Option (List Entry)) (old new : Counts) → Leads report s0 bs0 s (b ∷ bs) before now h i old
    → RanStep report b s t now later old new i j → Leads report s0 bs0 t bs before later h j new
leads_step report s0 bs0 s t b bs before now later h i j old new l w =
    let r = l.ran in
    let here : AreSteps (last_state s0 r.steps) (b ∷ []) (w.step ∷ []) = rw r.last (w.is_step, tt) in
    let number : old.batches + 1 ≡ 1 + length r.steps = (let x = ap (λ (c : Counts). c.batches) r.counts_are in omega (arith, x)) in
    let line : batch_lines report (1 + length r.steps) (last_state s0 r.steps) (b ∷ []) (w.step ∷ []) ≡ step_text report (old.batches + 1) s b w.step.phases =
    rw (r.last, ← number) (append-nil (step_text report (old.batches + 1) s b w.step.phases)) in
    record {
      done = l.done ++ b ∷ [];
      all = l.all ∙ sym (append_assoc l.done (b ∷ []) bs);
      ran = record {
        steps = r.steps ++ w.step ∷ [];
        are_steps = steps_append s0 l.done (b ∷ []) r.steps (w.step ∷ []) r.are_steps here;
        last = last_append s0 r.steps (w.step ∷ []) ∙ sym w.last;
        taken = rw (lines_append report 1 s0 l.done (b ∷ []) r.steps (w.step ∷ []) r.are_steps, line) (append_twice before now later (batch_lines report 1 s0 l.done r.steps) _ r.taken w.taken);
        history = history_step r.steps w.step h i j r.history w.history;
        counts_are = counts_step s0 l.done r.steps b w.step old new r.are_steps r.counts_are (subst (λ (z : State). new ≡ counted z b w.step old) (sym r.last) w.counts);
      };
    }

leads_end : (report : Report) (s0 : State) (bs0 : List Next) (s : State) (before now : Option (List ℕ)) (h i : Option (List Entry)) (counts : Counts) → Leads report s0 bs0 s [] before now h i counts → RanBatches report s0 s bs0 before now h i counts
leads_end report s0 bs0 s before now h i counts l = subst (λ (bs : List Next). RanBatches report s0 s bs before now h i counts) (sym (append-nil l.done) ∙ sym l.all) l.ran

leads_some : (report : Report) (s0 : State) (bs0 : List Next) (s : State) (bs : List Next) (ts : List Step) (before now later : Option (List ℕ)) (h i : Option (List Entry)) (counts : Counts) → Leads report s0 bs0 s bs before now h i counts
    → AreSteps s bs ts → IsPrefix now later (batch_lines report (counts.batches + 1) s bs ts) → WroteSomeBatches report s0 bs0 before later
leads_some report s0 bs0 s bs ts before now later h i counts l a p =
    let r = l.ran in
    let number : counts.batches + 1 ≡ 1 + length r.steps = (let x = ap (λ (c : Counts). c.batches) r.counts_are in omega (arith, x)) in
    let there : AreSteps (last_state s0 r.steps) bs ts = rw r.last a in
    let whole : batch_lines report 1 s0 (l.done ++ bs) (r.steps ++ ts) ≡ batch_lines report 1 s0 l.done r.steps ++ batch_lines report (counts.batches + 1) s bs ts =
    lines_append report 1 s0 l.done bs r.steps ts r.are_steps ∙ rw (r.last, ← number) refl in
    subst (λ (xs : List Next). WroteSomeBatches report s0 xs before later) (sym l.all) record {
      steps = r.steps ++ ts;
      are_steps = steps_append s0 l.done bs r.steps ts r.are_steps there;
      prefix = rw whole (prefix_then before now later (batch_lines report 1 s0 l.done r.steps) (batch_lines report (counts.batches + 1) s bs ts) r.taken p);
    }

-- the first batches were run, if the source tells the batches
abbrev pub LeadsTold : Report → State → Option (List Next) → State → Option (List Next) → Option (List ℕ) → Option (List ℕ) → Option (List Entry) → Option (List Entry) → Counts → Type 0
LeadsTold report s0 None s told before now h i counts = Unit {0}
LeadsTold report s0 (Some bs0) s None before now h i counts = ⊥
LeadsTold report s0 (Some bs0) s (Some bs) before now h i counts = Leads report s0 bs0 s bs before now h i counts

pub told_first : (report : Report) (s : State) (told : Option (List Next)) (before : Option (List ℕ)) (h : Option (List Entry)) (counts : Counts) → counts ≡ record { batches = 0; refused = 0; groups = 0; moves = 0 } → LeadsTold report s told s told before before h h counts
told_first report s None before h counts e = tt
told_first report s (Some bs) before h counts e = record {
  done = [];
  all = refl;
  ran = record { steps = []; are_steps = tt; last = refl; taken = append_none before; counts_are = e; history = longer_none h };
}

more_follow : (next : Next) (bs : List Next) → (IsEnd next → ⊥) → is_last_batch next ≡ false → behind_batch next bs ≡ next ∷ bs
more_follow (Items batch) bs m l = refl
more_follow (Refused line Header) bs m l = refl
more_follow (Refused line LineLong) bs m l = refl
more_follow (Refused line BadLine) bs m l = refl
more_follow (Refused line BadVertex) bs m l = refl
more_follow (Refused line TooMany) bs m l = refl
more_follow (Refused line Truncated) bs m l = refl
more_follow (Refused line InputLimit) bs m l = absurd cc
more_follow (Refused line EdgeLimit) bs m l = refl
more_follow (Refused line PhaseLimit) bs m l = refl
more_follow End bs m l = absurd (m tt)

none_follow : (next : Next) (bs : List Next) → is_last_batch next ≡ true → behind_batch next bs ≡ next ∷ []
none_follow (Items batch) bs l = absurd cc
none_follow (Refused line Header) bs l = absurd cc
none_follow (Refused line LineLong) bs l = absurd cc
none_follow (Refused line BadLine) bs l = absurd cc
none_follow (Refused line BadVertex) bs l = absurd cc
none_follow (Refused line TooMany) bs l = absurd cc
none_follow (Refused line Truncated) bs l = absurd cc
none_follow (Refused line InputLimit) bs l = refl
none_follow (Refused line EdgeLimit) bs l = absurd cc
none_follow (Refused line PhaseLimit) bs l = absurd cc
none_follow End bs l = absurd cc

end_follows : (next : Next) (bs : List Next) → IsEnd next → behind_batch next bs ≡ []
end_follows (Items batch) bs m = absurd m
end_follows (Refused line reason) bs m = absurd m
end_follows End bs m = refl

-- a batch that isn't the last was applied, and its line was written
pub told_step : (report : Report) (s0 : State) (told0 : Option (List Next)) (s t : State) (next : Next) (old new : Option (List Next)) (before now later : Option (List ℕ)) (h i j : Option (List Entry)) (counts more : Counts)
    → old ≡ option_map (behind_batch next) new → (IsEnd next → ⊥) → is_last_batch next ≡ false → LeadsTold report s0 told0 s old before now h i counts → RunsStep report next s t now later counts i j (Ok more)
    → LeadsTold report s0 told0 t new before later h j more
told_step report s0 None s t next old new before now later h i j counts more e m l d w = tt
told_step report s0 (Some bs0) s t next None new before now later h i j counts more e m l d w = absurd d
told_step report s0 (Some bs0) s t next (Some bs) None before now later h i j counts more e m l d w = absurd cc
told_step report s0 (Some bs0) s t next (Some bs) (Some rest) before now later h i j counts more e m l d w =
    let same : bs ≡ next ∷ rest = same_Some _ _ e ∙ more_follow next rest m l in
    leads_step report s0 bs0 s t next rest before now later h i j counts more (subst (λ (xs : List Next). Leads report s0 bs0 s xs before now h i counts) same d) w

-- the last batch was applied, and its line was written
pub told_last : (report : Report) (s0 : State) (told0 : Option (List Next)) (s t : State) (next : Next) (old new : Option (List Next)) (before now later : Option (List ℕ)) (h i j : Option (List Entry)) (counts more : Counts)
    → old ≡ option_map (behind_batch next) new → is_last_batch next ≡ true → LeadsTold report s0 told0 s old before now h i counts → RunsStep report next s t now later counts i j (Ok more)
    → RunsBatches report s0 t told0 before later h j (Ok more)
told_last report s0 None s t next old new before now later h i j counts more e l d w = tt
told_last report s0 (Some bs0) s t next None new before now later h i j counts more e l d w = absurd d
told_last report s0 (Some bs0) s t next (Some bs) None before now later h i j counts more e l d w = absurd cc
told_last report s0 (Some bs0) s t next (Some bs) (Some rest) before now later h i j counts more e l d w = grind (arith, nat_tests, same_Some, none_follow, leads_end, leads_step)

-- there are no more batches
pub told_end : (report : Report) (s0 : State) (told0 : Option (List Next)) (s : State) (next : Next) (old new : Option (List Next)) (before now : Option (List ℕ)) (h i : Option (List Entry)) (counts : Counts)
    → old ≡ option_map (behind_batch next) new → IsEnd next → LeadsTold report s0 told0 s old before now h i counts → RunsBatches report s0 s told0 before now h i (Ok counts)
told_end report s0 None s next old new before now h i counts e m d = tt
told_end report s0 (Some bs0) s next None new before now h i counts e m d = absurd d
told_end report s0 (Some bs0) s next (Some bs) None before now h i counts e m d = absurd cc
told_end report s0 (Some bs0) s next (Some bs) (Some rest) before now h i counts e m d =
    let same : bs ≡ [] = same_Some _ _ e ∙ end_follows next rest m in
    leads_end report s0 bs0 s before now h i counts (subst (λ (xs : List Next). Leads report s0 bs0 s xs before now h i counts) same d)

rest_all : (P : Next → Type 0) (xs ys : List Next) → All P (xs ++ ys) → All P ys
rest_all P [] ys h = h
rest_all P (x ∷ xs) ys h = rest_all P xs ys (All-tail P x (xs ++ ys) h)

-- the batches that are left keep their ranges
left_all : (report : Report) (header : HeaderShape) (s0 : State) (ts : List Token) (s : State) (bs : List Next) (before now : Option (List ℕ)) (h i : Option (List Entry)) (counts : Counts) → Leads report s0 (batches (rules_of header MAX_ITEMS) ts) s bs before now h i counts → All (IsNext (rules_of header MAX_ITEMS)) bs
left_all report header s0 ts s bs before now h i counts l =
    rest_all (IsNext (rules_of header MAX_ITEMS)) l.done bs (subst (λ (xs : List Next). All (IsNext (rules_of header MAX_ITEMS)) xs) l.all (batches_keep_ranges (rules_of header MAX_ITEMS) ts))

-- no more batches were read
pub told_unread : (report : Report) (header : HeaderShape) (s0 t : State) (toks : Option (List Token)) (s : State) (told : Option (List Next)) (before now : Option (List ℕ)) (h i j : Option (List Entry)) (counts : Counts) (fault : SessionFault)
    → IsSound MAX_EDGES s → s.graph.vertices ≡ header.n → LeadsTold report s0 (option_map (batches (rules_of header MAX_ITEMS)) toks) s told before now h i counts → RunsBatches report s0 t (option_map (batches (rules_of header MAX_ITEMS)) toks) before now h j (Err fault)
told_unread report header s0 t None s told before now h i j counts fault sound e d = tt
told_unread report header s0 t (Some ts) s None before now h i j counts fault sound e d = absurd d
told_unread report header s0 t (Some ts) s (Some bs) before now h i j counts fault sound e d =
    let there = some_states header s bs sound e (left_all report header s0 ts s bs before now h i counts d) in
    leads_some report s0 (batches (rules_of header MAX_ITEMS) ts) s bs there.0 before now now h i counts d there.1 (prefix_none now now (batch_lines report (counts.batches + 1) s bs there.0) refl)

-- a prefix of the text of one batch was written
some_lines : (report : Report) (header : HeaderShape) (s0 : State) (bs0 : List Next) (s : State) (next : Next) (rest : List Next) (before now later : Option (List ℕ)) (h i : Option (List Entry)) (counts : Counts) → IsSound MAX_EDGES s → s.graph.vertices ≡ header.n
    → All (IsNext (rules_of header MAX_ITEMS)) (next ∷ rest) → Leads report s0 bs0 s (next ∷ rest) before now h i counts → WroteSome report (counts.batches + 1) next s now later → WroteSomeBatches report s0 bs0 before later
some_lines report header s0 bs0 s next rest before now later h i counts sound e all d w =
    let x = sound_step s header next w.step sound e (All-head (IsNext (rules_of header MAX_ITEMS)) next rest all) w.is_step in
    let there = some_states header w.step.state rest x.0 x.1 (All-tail (IsNext (rules_of header MAX_ITEMS)) next rest all) in
    leads_some report s0 bs0 s (next ∷ rest) (w.step ∷ there.0) before now later h i counts d (w.is_step, there.1)
    (prefix_longer now later (step_text report (counts.batches + 1) s next w.step.phases) (batch_lines report ((counts.batches + 1) + 1) w.step.state rest there.0) w.prefix)

some_more : (next : Next) (rest : List Next) → (IsEnd next → ⊥) → (more : List Next) × (behind_batch next rest ≡ next ∷ more)
some_more (Items batch) rest m = (rest, refl)
some_more (Refused line Header) rest m = (rest, refl)
some_more (Refused line LineLong) rest m = (rest, refl)
some_more (Refused line BadLine) rest m = (rest, refl)
some_more (Refused line BadVertex) rest m = (rest, refl)
some_more (Refused line TooMany) rest m = (rest, refl)
some_more (Refused line Truncated) rest m = (rest, refl)
some_more (Refused line InputLimit) rest m = ([], refl)
some_more (Refused line EdgeLimit) rest m = (rest, refl)
some_more (Refused line PhaseLimit) rest m = (rest, refl)
some_more End rest m = absurd (m tt)

pub told_stopped : (report : Report) (header : HeaderShape) (s0 t : State) (toks : Option (List Token)) (s : State) (next : Next) (told new : Option (List Next)) (before now later : Option (List ℕ)) (h i j : Option (List Entry)) (counts : Counts) (fault : SessionFault)
    → IsSound MAX_EDGES s → s.graph.vertices ≡ header.n → told ≡ option_map (behind_batch next) new → (IsEnd next → ⊥) → LeadsTold report s0 (option_map (batches (rules_of header MAX_ITEMS)) toks) s told before now h i counts
    → WroteSome report (counts.batches + 1) next s now later → RunsBatches report s0 t (option_map (batches (rules_of header MAX_ITEMS)) toks) before later h j (Err fault)
told_stopped report header s0 t None s next told new before now later h i j counts fault sound e f m d p = tt
told_stopped report header s0 t (Some ts) s next None new before now later h i j counts fault sound e f m d p = absurd d
told_stopped report header s0 t (Some ts) s next (Some bs) None before now later h i j counts fault sound e f m d p = absurd cc
told_stopped report header s0 t (Some ts) s next (Some bs) (Some rest) before now later h i j counts fault sound e f m d p =
    let more = some_more next rest m in
    let same : bs ≡ next ∷ more.0 = same_Some _ _ f ∙ more.1 in
    some_lines report header s0 (batches (rules_of header MAX_ITEMS) ts) s next more.0 before now later h i counts sound e (subst (λ (xs : List Next). All (IsNext (rules_of header MAX_ITEMS)) xs) same (left_all report header s0 ts s bs before now h i counts d))
    (subst (λ (xs : List Next). Leads report s0 (batches (rules_of header MAX_ITEMS) ts) s xs before now h i counts) same d) p

-- a batch that isn't the last takes some of the reader's budget
pub takes_some : (next : Next) (old new : ℕ) → TakesBatch next old new → (IsEnd next → ⊥) → is_last_batch next ≡ false → new < old
takes_some (Items batch) old new h m l = h
takes_some (Refused line Header) old new h m l = h
takes_some (Refused line LineLong) old new h m l = h
takes_some (Refused line BadLine) old new h m l = h
takes_some (Refused line BadVertex) old new h m l = h
takes_some (Refused line TooMany) old new h m l = h
takes_some (Refused line Truncated) old new h m l = h
takes_some (Refused line InputLimit) old new h m l = absurd cc
takes_some (Refused line EdgeLimit) old new h m l = h
takes_some (Refused line PhaseLimit) old new h m l = h
takes_some End old new h m l = absurd (m tt)

pub not_end : (next : Next) → (next ≡ End → ⊥) → IsEnd next → ⊥
not_end (Items batch) h m = m
not_end (Refused line reason) h m = m
not_end End h m = h refl

-- so many batches were counted that the reader's budget allows them, and no more refused ones than batches
pub record Fit (counts : Counts) (budget : ℕ) : Type 0 where
  pub few : counts.batches + budget ≤ 2 ^ 30 + 1
  pub fewer : counts.refused ≤ counts.batches

one_if_small : (b : Bool) → one_if b ≤ 1
one_if_small true = omega arith
one_if_small false = omega arith

-- the counts still fit after one more batch, which took some of the budget
pub fit_more : (s : State) (b : Next) (t : Step) (old new : Counts) (budget rest now : ℕ) → new ≡ counted s b t old → rest < budget → now ≤ rest → Fit old budget → Fit new now
fit_more s b t old new budget rest now e less takes fit =
    let x = ap (λ (c : Counts). c.refused) e in
    let y = ap (λ (c : Counts). c.batches) e in
    let z = one_if_small (is_refused s b) in
    record { few = omega (arith, y, less, takes, fit.few); fewer = omega (arith, x, y, z, fit.fewer) }

-- the batches after `next` are those of other rules that are the same, with one read ahead
pub follow_on : (a rules : Rules) (next : Next) (old : Option (List Next)) (new : Reading) (left : Option (List ℕ)) (later : Option (List Next))
    → old ≡ option_map (behind_batch next) (batches_left a new left) → a ≡ rules → batches_left rules new left ≡ later → old ≡ option_map (behind_batch next) later
follow_on a rules next old new left later e same f = e ∙ (ap (λ (r : Rules). option_map (behind_batch next) (batches_left r new left)) same ∙ ap (option_map (behind_batch next)) f)
