-- The whole text of a session, from its parts.
use Rattle.std.proofs.Common.{ℕ, suc, ◌≡◌, ◌+◌, ◌*◌, ◌≤◌, ◌<◌, List, [], ◌∷◌, ◌++◌, length, refl, sym, ap, ◌∙◌, arith, subst, append_assoc, append-nil}
use Rattle.std.specs.Prelude.{Option, Some, None, Result, Ok, Err, All}
use Rattle.std.specs.Option.{option_map}
use Rattle.std.specs.Io.KnownBytes.{append_known}
use Rattle.std.proofs.lemmas.List.Sums.{sum_by-cons}
use Rattle.std.proofs.lemmas.List.Elements.{All-nil, All-cons, All-head, All-tail}
use Rattle.kc_graph.specs.declared.cleaning.Cleaned.{Cleaned}
use Rattle.kc_graph.specs.declared.limits.TheConstants.{MAX_EDGES, MAX_ITEMS}
use Rattle.kc_graph.specs.Cleaning.{cleaned}
use Rattle.kc_text.specs.Writing.{IsPrefix}
use Rattle.kc_text.proofs.lemmas.Writing.{append_twice, prefix_none, prefix_all, prefix_longer, prefix_then}
use Rattle.kc_history.specs.declared.entries.Entry.{Entry}
use Rattle.kc_history.specs.declared.replies.Reply.{Reply}
use Rattle.kc_history.specs.Replies.{AreExplained, zeros}
use Rattle.kc_history.proofs.lemmas.Replies.{start_explains_zeros}
use Rattle.kc_batch.specs.declared.ask.Ask.{Ask}
use Rattle.kc_batch.specs.declared.token.Token.{Token}
use Rattle.kc_batch.specs.declared.batch.Next.{Next}
use Rattle.kc_batch.specs.declared.batch.Next.TheVariants.{Items, Refused, End}
use Rattle.kc_batch.specs.HeaderShape.{HeaderShape}
use Rattle.kc_batch.specs.Headers.{IsAsk}
use Rattle.kc_batch.specs.Batches.{batches, IsNext}
use Rattle.kc_batch.specs.BatchInputs.{rules_of}
use Rattle.kc_batch.proofs.lemmas.Inputs.{batches_keep_ranges}
use Rattle.kc_groups.specs.Entries.{entries_in}
use Rattle.kc_report.specs.Lines.{head_text}
use Rattle.kc_report.specs.VertexLines.{tail_text}
use Rattle.kc_engine.specs.declared.faults.EngineFault.{EngineFault}
use Rattle.kc_engine.specs.States.{State, IsSound}
use Rattle.kc_engine.specs.Batches.{IsCleaning}
use Rattle.kc_engine.specs.Laws.{IsHistoryOf}
use Rattle.kc_engine.proofs.lemmas.Phases.{phases_lead_on}
use Rattle.kc_session.specs.declared.counts.Counts.{Counts}
use Rattle.kc_session.specs.declared.ended.Ended.{Ended}
use Rattle.kc_session.specs.declared.fault.SessionFault.{SessionFault}
use Rattle.kc_session.specs.declared.report.Report.TheVariants.{Lines}
use Rattle.std.proofs.lemmas.Option.{same_Some}
use Rattle.std.proofs.lemmas.Bool.Decides.{nat_tests}
use Rattle.kc_session.specs.Agents.{AgentShape, questions}
use Rattle.kc_session.specs.private.Audiences.{longer}
use Rattle.kc_session.specs.Asking.{Fit, HaveRun, AreClosed, agents_for}
use Rattle.kc_session.specs.private.Counts.{counts_of}
use Rattle.kc_session.specs.Ended.{IsEnded, replies_in, greatest}
use Rattle.kc_session.specs.ReaderLines.{reader_lines}
use Rattle.kc_session.specs.private.Running.{RunsBatches, RanBatches}
use Rattle.kc_session.specs.Running.{WroteSomeBatches}
use Rattle.kc_session.specs.SessionText.{IsSession, rest_text, body_text, session_text, WroteSomeOfSession, WritesSession}
use Rattle.kc_session.specs.States.{Step, stay, start, refusal_of, IsAfterCleaned, IsStep, AreSteps, last_state, history_of}
use Rattle.kc_session.proofs.Steps.{sound_start, sound_step, cleaning}
use Rattle.kc_store.specs.Seats.{StoreShape}
use Rattle.kc_levels.specs.declared.profile.Profile.{Profile}
use Rattle.kc_session.proofs.AgentLists.{closed_fit, closed_explained}
use Rattle.kc_session.proofs.AskingLemmas.{replies_few}
use Rattle.kc_session.proofs.Runs.{profile_last}
use Rattle.kc_session.proofs.Settles.{start_states}

-- if a history ends at the state before a batch, then with the batch's entries it ends at the state after it
end_stay : (n : ℕ) (history : List Entry) (s : State) (t : Step) → IsHistoryOf n history s → t ≡ stay s → IsHistoryOf n (history ++ entries_in t.phases) t.state
end_stay n history s t h is = grind (arith, nat_tests, append-nil)

end_cleaned : (n : ℕ) (history : List Entry) (s : State) (c : Cleaned) (r : Option EngineFault) (t : Step) → IsSound MAX_EDGES s → IsCleaning s.graph c → IsHistoryOf n history s → IsAfterCleaned s c r t → IsHistoryOf n (history ++ entries_in t.phases) t.state
end_cleaned n history s c (Some fault) t sound clean h a = end_stay n history s t h a
end_cleaned n history s c None t sound clean h a = phases_lead_on MAX_EDGES n history s t.state c t.phases sound clean a h

end_step : (header : HeaderShape) (history : List Entry) (s : State) (b : Next) (t : Step) → IsSound MAX_EDGES s → s.graph.vertices ≡ header.n → IsNext (rules_of header MAX_ITEMS) b → IsHistoryOf header.n history s → IsStep s b t → IsHistoryOf header.n (history ++ entries_in t.phases) t.state
end_step header history s (Items batch) t sound e i h a =
    let c = cleaned s.graph batch.items in
    end_cleaned header.n history s c (refusal_of s c) t sound (cleaning s header batch.items batch.line e i) h a
end_step header history s (Refused line reason) t sound e i h a = end_stay header.n history s t h a
end_step header history s End t sound e i h a = end_stay header.n history s t h a

pub end_steps : (header : HeaderShape) (history : List Entry) (s : State) (bs : List Next) (ts : List Step) → IsSound MAX_EDGES s → s.graph.vertices ≡ header.n → All (IsNext (rules_of header MAX_ITEMS)) bs → IsHistoryOf header.n history s → AreSteps s bs ts
    → IsHistoryOf header.n (history ++ history_of ts) (last_state s ts)
end_steps header history s [] [] sound e all h a = subst (λ (es : List Entry). IsHistoryOf header.n es s) (sym (append-nil history)) h
end_steps header history s [] (t ∷ ts) sound e all h a = absurd a
end_steps header history s (b ∷ bs) [] sound e all h a = absurd a
end_steps header history s (b ∷ bs) (t ∷ ts) sound e all h a =
    let i = All-head (IsNext (rules_of header MAX_ITEMS)) b bs all in
    let z = sound_step s header b t sound e i a.0 in
    subst (λ (es : List Entry). IsHistoryOf header.n es (last_state t.state ts)) (append_assoc history (entries_in t.phases) (history_of ts))
    (end_steps header (history ++ entries_in t.phases) t.state bs ts z.0 z.1 (All-tail (IsNext (rules_of header MAX_ITEMS)) b bs all) (end_step header history s b t sound e i h a.0) a.1)

-- replies that fit the asks, and that this history explains
pub record AreReplies (n : ℕ) (history : List Entry) (asks : List Ask) (lists : List (List Reply)) : Type 0 where
  pub fit : Fit asks lists
  pub explained : All (AreExplained n history 0) lists

abbrev zero_lists : List Ask → List (List Reply)
zero_lists [] = []
zero_lists (a ∷ asks) = zeros (questions a) ∷ zero_lists asks

zeros_fit : (asks : List Ask) → Fit asks (zero_lists asks)
zeros_fit [] = tt
zeros_fit (a ∷ asks) = (start_explains_zeros.vertices (questions a), zeros_fit asks)

zeros_explained : (n : ℕ) (history : List Entry) (asks : List Ask) → All (AreExplained n history 0) (zero_lists asks)
zeros_explained n history [] = All-nil (AreExplained n history 0)
zeros_explained n history (a ∷ asks) = All-cons (AreExplained n history 0) (zeros (questions a)) (zero_lists asks) (start_explains_zeros.explained n history (questions a)) (zeros_explained n history asks)

some_replies : (n : ℕ) (history : List Entry) (asks : List Ask) → AreReplies n history asks (zero_lists asks)
some_replies n history asks = record { fit = zeros_fit asks; explained = zeros_explained n history asks }

abbrev is_session : (header : HeaderShape) (ls : List Token) (ts : List Step) (lists : List (List Reply)) → AreSteps (start header.profile header.n) (batches (rules_of header MAX_ITEMS) ls) ts → AreReplies header.n (history_of ts) header.asks lists
    → IsSession header (batches (rules_of header MAX_ITEMS) ls)
is_session header ls ts lists a r = record {
  steps = ts;
  are_steps = a;
  history = history_of ts;
  history_is = refl;
  ends = end_steps header [] (start header.profile header.n) (batches (rules_of header MAX_ITEMS) ls) ts (sound_start header.profile header.n) refl (batches_keep_ranges (rules_of header MAX_ITEMS) ls) (record { graph = refl; levels = refl }) a;
  replies = lists;
  fit = r.fit;
  explained = r.explained;
}

-- a prefix of the head was written, or all of it
pub head_prefix : (header : HeaderShape) (toks : Option (List Token)) (before now : Option (List ℕ)) (fault : SessionFault) → IsPrefix before now (head_text header.n)
    → WritesSession session_text header (option_map (batches (rules_of header MAX_ITEMS)) toks) before now (Err fault)
head_prefix header None before now fault p = tt
head_prefix header (Some ls) before now fault p =
    let there = start_states header ls in
    record {
      session = is_session header ls there.0 (zero_lists header.asks) there.1 (some_replies header.n (history_of there.0) header.asks);
      prefix = prefix_longer before now (head_text header.n) _ p;
    }

-- the head was written, and the part after it
pub after_head : (header : HeaderShape) (told : Option (List Next)) (before now later : Option (List ℕ)) (result : Result Ended SessionFault) → now ≡ append_known before (head_text header.n) → WritesSession body_text header told now later result
    → WritesSession session_text header told before later result
after_head header None before now later result e w = tt
after_head header (Some bs) before now later (Ok ended) e w = record { session = w.session; taken = append_twice before now later (head_text header.n) _ e w.taken; ends = w.ends }
after_head header (Some bs) before now later (Err fault) e w = record { session = w.session; prefix = prefix_then before now later (head_text header.n) _ e w.prefix }

-- nothing was written after the head
pub body_none : (header : HeaderShape) (toks : Option (List Token)) (before now : Option (List ℕ)) (fault : SessionFault) → now ≡ before → WritesSession body_text header (option_map (batches (rules_of header MAX_ITEMS)) toks) before now (Err fault)
body_none header None before now fault e = tt
body_none header (Some ls) before now fault e =
    let there = start_states header ls in
    record {
      session = is_session header ls there.0 (zero_lists header.asks) there.1 (some_replies header.n (history_of there.0) header.asks);
      prefix = prefix_none before now _ e;
    }

-- a prefix of the lines of the batches was written
some_batches : (header : HeaderShape) (ls : List Token) (before now : Option (List ℕ)) → WroteSomeBatches Lines (start header.profile header.n) (batches (rules_of header MAX_ITEMS) ls) before now
    → WroteSomeOfSession body_text header (batches (rules_of header MAX_ITEMS) ls) before now
some_batches header ls before now w = record {
  session = is_session header ls w.steps (zero_lists header.asks) w.are_steps (some_replies header.n (history_of w.steps) header.asks);
  prefix = prefix_longer before now _ _ w.prefix;
}

pub batches_prefix : (header : HeaderShape) (toks : Option (List Token)) (s t : State) (before now : Option (List ℕ)) (h i : Option (List Entry)) (fault other : SessionFault) → s ≡ start header.profile header.n
    → RunsBatches Lines s t (option_map (batches (rules_of header MAX_ITEMS)) toks) before now h i (Err other) → WritesSession body_text header (option_map (batches (rules_of header MAX_ITEMS)) toks) before now (Err fault)
batches_prefix header None s t before now h i fault other e w = tt
batches_prefix header (Some ls) s t before now h i fault other e w =
    some_batches header ls before now (subst (λ (z : State). WroteSomeBatches Lines z (batches (rules_of header MAX_ITEMS) ls) before now) e w)

from_start : (header : HeaderShape) (bs : List Next) (s t : State) (before now : Option (List ℕ)) (h i : Option (List Entry)) (counts : Counts) → s ≡ start header.profile header.n → RanBatches Lines s t bs before now h i counts
    → RanBatches Lines (start header.profile header.n) t bs before now h i counts
from_start header bs s t before now h i counts e w = subst (λ (z : State). RanBatches Lines z t bs before now h i counts) e w

-- all lines of the batches were written
pub batches_written : (header : HeaderShape) (toks : Option (List Token)) (s t : State) (before now : Option (List ℕ)) (h i : Option (List Entry)) (counts : Counts) (fault : SessionFault) → s ≡ start header.profile header.n
    → RunsBatches Lines s t (option_map (batches (rules_of header MAX_ITEMS)) toks) before now h i (Ok counts) → WritesSession body_text header (option_map (batches (rules_of header MAX_ITEMS)) toks) before now (Err fault)
batches_written header None s t before now h i counts fault e w = tt
batches_written header (Some ls) s t before now h i counts fault e w =
    let v = from_start header (batches (rules_of header MAX_ITEMS) ls) s t before now h i counts e w in
    some_batches header ls before now (record { steps = v.steps; are_steps = v.are_steps; prefix = prefix_all before now _ v.taken })

-- the text after the batches, from the state after them
rest_is : (header : HeaderShape) (ls : List Token) (ts : List Step) (t : State) (lists : List (List Reply)) → AreSteps (start header.profile header.n) (batches (rules_of header MAX_ITEMS) ls) ts → last_state (start header.profile header.n) ts ≡ t
    → reader_lines 0 lists ++ tail_text t.profile t.graph t.levels ≡ rest_text header.profile header.n lists (history_of ts)
rest_is header ls ts t lists a last =
    let bs = batches (rules_of header MAX_ITEMS) ls in
    let ends = subst (λ (z : State). IsHistoryOf header.n (history_of ts) z) last (end_steps header [] (start header.profile header.n) bs ts (sound_start header.profile header.n) refl (batches_keep_ranges (rules_of header MAX_ITEMS) ls) (record { graph = refl; levels = refl }) a) in
    let profile : t.profile ≡ header.profile = ap (λ (z : State). z.profile) (sym last) ∙ profile_last (start header.profile header.n) bs ts a in
    λ k. reader_lines 0 lists ++ tail_text (profile k) (sym ends.graph k) (sym ends.levels k)

-- all lines of the batches were written, and a prefix of the text after them
pub rest_prefix : (header : HeaderShape) (toks : Option (List Token)) (s t : State) (before now later : Option (List ℕ)) (h i : Option (List Entry)) (counts : Counts) (lists : List (List Reply)) (fault : SessionFault) → s ≡ start header.profile header.n
    → RunsBatches Lines s t (option_map (batches (rules_of header MAX_ITEMS)) toks) before now h i (Ok counts) → ((es : List Entry) → i ≡ longer h es → AreReplies header.n es header.asks lists) → IsPrefix now later (reader_lines 0 lists ++ tail_text t.profile t.graph t.levels)
    → WritesSession body_text header (option_map (batches (rules_of header MAX_ITEMS)) toks) before later (Err fault)
rest_prefix header None s t before now later h i counts lists fault e w r rest = tt
rest_prefix header (Some ls) s t before now later h i counts lists fault e w r rest =
    let v = from_start header (batches (rules_of header MAX_ITEMS) ls) s t before now h i counts e w in
    record {
      session = is_session header ls v.steps lists v.are_steps (r (history_of v.steps) v.history);
      prefix = prefix_then before now later _ _ v.taken (subst (λ (z : List ℕ). IsPrefix now later z) (rest_is header ls v.steps t lists v.are_steps v.last) rest);
    }

steps_long : (s : State) (bs : List Next) (ts : List Step) → AreSteps s bs ts → length ts ≡ length bs
steps_long s [] [] a = refl
steps_long s [] (t ∷ ts) a = absurd a
steps_long s (b ∷ bs) [] a = absurd a
steps_long s (b ∷ bs) (t ∷ ts) a = ap suc (steps_long t.state bs ts a.1)

-- the counts of a session
pub ended_with : (header : HeaderShape) (bs : List Next) (steps : List Step) (lists : List (List Reply)) (t : State) (counts : Counts) (levels : List ℕ) (e : Ended) → AreSteps (start header.profile header.n) bs steps → last_state (start header.profile header.n) steps ≡ t
    → counts ≡ counts_of (start header.profile header.n) bs steps → levels ≡ t.levels → e ≡ record { batches = counts.batches; refused = counts.refused; phases = t.phases; groups = counts.groups; moves = counts.moves; edges = length t.graph.edges; replies = replies_in lists; top = greatest levels }
    → IsEnded header bs steps lists e
ended_with header bs steps lists t counts levels e a last c l is = record {
  count = ap (λ (z : Ended). z.batches) is ∙ (ap (λ (z : Counts). z.batches) c ∙ steps_long (start header.profile header.n) bs steps a);
  refused = ap (λ (z : Ended). z.refused) is ∙ ap (λ (z : Counts). z.refused) c;
  phases = ap (λ (z : Ended). z.phases) is ∙ ap (λ (z : State). z.phases) (sym last);
  groups = ap (λ (z : Ended). z.groups) is ∙ ap (λ (z : Counts). z.groups) c;
  moves = ap (λ (z : Ended). z.moves) is ∙ ap (λ (z : Counts). z.moves) c;
  edges = ap (λ (z : Ended). z.edges) is ∙ ap (λ (z : State). length z.graph.edges) (sym last);
  replies = ap (λ (z : Ended). z.replies) is;
  top = ap (λ (z : Ended). z.top) is ∙ (ap (λ (x : List ℕ). greatest x) l ∙ ap (λ (z : State). greatest z.levels) (sym last));
}

-- the whole text was written
pub rest_written : (header : HeaderShape) (toks : Option (List Token)) (s t : State) (before now later : Option (List ℕ)) (h i : Option (List Entry)) (counts : Counts) (lists : List (List Reply)) (levels : List ℕ) (e : Ended) → s ≡ start header.profile header.n
    → RunsBatches Lines s t (option_map (batches (rules_of header MAX_ITEMS)) toks) before now h i (Ok counts) → ((es : List Entry) → i ≡ longer h es → AreReplies header.n es header.asks lists) → later ≡ append_known now (reader_lines 0 lists ++ tail_text t.profile t.graph t.levels) → levels ≡ t.levels
    → e ≡ record { batches = counts.batches; refused = counts.refused; phases = t.phases; groups = counts.groups; moves = counts.moves; edges = length t.graph.edges; replies = replies_in lists; top = greatest levels }
    → WritesSession body_text header (option_map (batches (rules_of header MAX_ITEMS)) toks) before later (Ok e)
rest_written header None s t before now later h i counts lists levels e f w r rest l is = tt
rest_written header (Some ls) s t before now later h i counts lists levels e f w r rest l is =
    let bs = batches (rules_of header MAX_ITEMS) ls in
    let v = from_start header bs s t before now h i counts f w in
    record {
      session = is_session header ls v.steps lists v.are_steps (r (history_of v.steps) v.history);
      taken = append_twice before now later _ _ v.taken (subst (λ (z : List ℕ). later ≡ append_known now z) (rest_is header ls v.steps t lists v.are_steps v.last) rest);
      ends = ended_with header bs v.steps lists t counts levels e v.are_steps v.last v.counts_are l is;
    }

-- replies explained by a history that began empty
pub replies_of : (n : ℕ) (h i : List Entry) (asks : List Ask) (lists : List (List Reply)) → h ≡ [] → AreReplies n i asks lists → (es : List Entry) → Some i ≡ longer (Some h) es → AreReplies n es asks lists
replies_of n h i asks lists none r es e = subst (λ (xs : List Entry). AreReplies n xs asks lists) (same_Some _ _ e ∙ ap (λ (xs : List Entry). xs ++ es) none) r

-- if there are no asks, there are no replies
pub no_replies : (n : ℕ) (h i : Option (List Entry)) (asks : List Ask) → asks ≡ [] → (es : List Entry) → i ≡ longer h es → AreReplies n es asks []
no_replies n h i asks none es e = subst (λ (xs : List Ask). AreReplies n es xs []) (sym none) (record { fit = tt; explained = All-nil (AreExplained n es 0) })

-- a header without asks
pub without_asks : (p : Profile) (n : ℕ) (asks : List Ask) (told : Option (List Next)) (before now : Option (List ℕ)) (result : Result Ended SessionFault) → asks ≡ [] → WritesSession body_text (record { profile = p; n = n; asks = [] }) told before now result
    → WritesSession body_text (record { profile = p; n = n; asks = asks }) told before now result
without_asks p n asks told before now result none w = subst (λ (xs : List Ask). WritesSession body_text (record { profile = p; n = n; asks = xs }) told before now result) (sym none) w

-- the replies of agents that were opened, ran and were closed
pub session_replies : (store : StoreShape) (n : ℕ) (h i : List Entry) (asks : List Ask) (first last : List AgentShape) (lists : List (List Reply)) → store.vertices ≡ n → first ≡ agents_for store h 0 asks → HaveRun first last → AreClosed i last lists → AreReplies n i asks lists
session_replies store n h i asks first last lists size fresh ran closed = grind (arith, nat_tests, closed_fit, closed_explained)

-- the replies are few
fit_few : (n : ℕ) (asks : List Ask) (lists : List (List Reply)) → Fit asks lists → All (IsAsk n) asks → (replies_in lists ≤ length asks * 65536) × (length lists ≡ length asks)
fit_few n [] [] f all = (omega arith, refl)
fit_few n [] (rs ∷ more) f all = absurd f
fit_few n (a ∷ asks) [] f all = absurd f
fit_few n (a ∷ asks) (rs ∷ more) f all =
    let one = replies_few a rs f.0 (All-head (IsAsk n) a asks all).few in
    let rest = fit_few n asks more f.1 (All-tail (IsAsk n) a asks all) in
    let sum : replies_in (rs ∷ more) ≡ length rs + replies_in more = sum_by-cons (λ (ss : List Reply). length ss) rs more in
    let times : length (a ∷ asks) * 65536 ≡ 65536 + length asks * 65536 = omega arith in
    (let x = rest.0 in omega (arith, one, x, sum, times), ap suc rest.1)

pub few_replies : (n : ℕ) (asks : List Ask) (lists : List (List Reply)) → Fit asks lists → All (IsAsk n) asks → length asks ≤ 64 → (replies_in lists < 4294967296) × (length lists < 4294967296)
few_replies n asks lists f all few =
    let b = fit_few n asks lists f all in
    let x = b.0 in
    let y = b.1 in
    (omega (arith, x, few), omega (arith, y, few))
