-- The text of a run: one for all replies that fit, and equal except for the lines of the readers.
use Rattle.std.proofs.Common.{ℕ, ◌≡◌, Bool, List, [], ◌∷◌, ◌++◌, length, nat_lt, refl, sym, ap, ◌∙◌, subst, append_assoc, arith}
use Rattle.std.specs.Prelude.{Option, Some, None, Ok, Err, All}
use Rattle.std.specs.Option.{option_map}
use Rattle.std.proofs.lemmas.List.Elements.{All-nil, All-cons}
use Rattle.std.proofs.lemmas.Bool.Decides.{nat_tests}
use Rattle.kc_text.specs.Lines.{lines}
use Rattle.kc_text.specs.Kept.{kept}
use Rattle.kc_graph.specs.declared.limits.TheConstants.{MAX_ITEMS}
use Rattle.kc_history.specs.declared.entries.Entry.{Entry}
use Rattle.kc_history.specs.declared.replies.Reply.{Reply}
use Rattle.kc_history.specs.Points.{graph_at, levels_at}
use Rattle.kc_history.specs.Replies.{AreExplained, zeros}
use Rattle.kc_history.proofs.lemmas.Replies.{start_explains_zeros}
use Rattle.kc_batch.specs.declared.ask.Ask.{Ask}
use Rattle.kc_batch.specs.declared.token.Token.{Token}
use Rattle.kc_batch.specs.declared.batch.Next.{Next}
use Rattle.kc_batch.specs.HeaderShape.{HeaderShape}
use Rattle.kc_batch.specs.Headers.{HeaderText, Accepted, Refused, header_of}
use Rattle.kc_batch.specs.Tokens.{tokens}
use Rattle.kc_batch.specs.Batches.{batches}
use Rattle.kc_batch.specs.BatchInputs.{rules_of, behind_header}
use Rattle.kc_batch.proofs.lemmas.Inputs.{batches_keep_ranges}
use Rattle.kc_report.specs.Lines.{head_text}
use Rattle.kc_report.specs.VertexLines.{tail_text}
use Rattle.kc_session.specs.declared.fault.SessionFault.{SessionFault}
use Rattle.kc_session.specs.declared.report.Report.TheVariants.{Lines}
use Rattle.kc_session.specs.States.{Step, start, AreSteps, history_of}
use Rattle.kc_session.specs.Agents.{questions}
use Rattle.kc_session.specs.Asking.{Fit}
use Rattle.kc_session.specs.Counts.{refused_in}
use Rattle.kc_session.specs.RunText.{batch_lines}
use Rattle.kc_session.specs.declared.ended.Ended.{Ended}
use Rattle.kc_session.specs.SessionText.{IsSession, session_text, WritesSession}
use Rattle.kc_session.proofs.lemmas.Runs.{sound_start, one_run, start_states}
use Rattle.kcore.specs.declared.limits.TheConstants.{LINE_LIMIT, INPUT_LIMIT}
use Rattle.kcore.specs.RunText.{IsRun, IsRunOf}
use Rattle.kcore.specs.private.InputTexts.{HasTexts}
use Rattle.kcore.specs.private.Writing.{WritesAfter}
use Rattle.kcore.specs.Laws.{HasHistory, InputHasOneHistory, InputHasText, TakesReplies, RepliesHaveText, HasTextsAlike, TextsAreAlike}
use Rattle.kcore.proofs.Points.{are_near}
use Rattle.kcore.proofs.InputTexts.{some_text}

-- the batches of these lines after a header
abbrev pub said_batches : HeaderShape → List Token → List Next
said_batches header ls = batches (rules_of header MAX_ITEMS) ls

-- the run with these steps and replies
pub is_run : (header : HeaderShape) (ls : List Token) (ts : List Step) (replies : List (List Reply)) → AreSteps (start header.profile header.n) (said_batches header ls) ts → Fit header.asks replies → All (AreExplained header.n (history_of ts) 0) replies
    → IsRun header (said_batches header ls) replies (session_text header (said_batches header ls) ts replies) (nat_lt 0 (refused_in (start header.profile header.n) (said_batches header ls) ts))
is_run header ls ts replies a fit explained = record {
  steps = ts;
  are_steps = a;
  history = history_of ts;
  history_is = refl;
  near = are_near header (said_batches header ls) ts (batches_keep_ranges (rules_of header MAX_ITEMS) ls) a;
  fit = fit;
  explained = explained;
  text_is = refl;
  refusal = refl;
}

-- the run of a session
run_of : (header : HeaderShape) (ls : List Token) (s : IsSession header (said_batches header ls))
    → IsRun header (said_batches header ls) s.replies (session_text header (said_batches header ls) s.steps s.replies) (nat_lt 0 (refused_in (start header.profile header.n) (said_batches header ls) s.steps))
run_of header ls s = is_run header ls s.steps s.replies s.are_steps s.fit (subst (λ (h : List Entry). All (AreExplained header.n h 0) s.replies) s.history_is s.explained)

-- a session was written
pub run_written : (header : HeaderShape) (toks : Option (List Token)) (before now : Option (List ℕ)) (ended : Ended) (refused : Bool) → refused ≡ nat_lt 0 ended.refused
    → WritesSession session_text header (option_map (batches (rules_of header MAX_ITEMS)) toks) before now (Ok ended) → WritesAfter (IsRunOf header) (option_map (batches (rules_of header MAX_ITEMS)) toks) before now (Ok refused)
run_written header None before now ended refused e w = tt
run_written header (Some ls) before now ended refused e w = grind (arith, nat_tests, run_of, w.session, w.ends.refused, w.taken)

-- a prefix of a session was written
pub run_stopped : (header : HeaderShape) (toks : Option (List Token)) (before now : Option (List ℕ)) (fault other : SessionFault)
    → WritesSession session_text header (option_map (batches (rules_of header MAX_ITEMS)) toks) before now (Err other) → WritesAfter (IsRunOf header) (option_map (batches (rules_of header MAX_ITEMS)) toks) before now (Err fault)
run_stopped header None before now fault other w = tt
run_stopped header (Some ls) before now fault other w =
    let s = w.session in
    record {
      text = session_text header (said_batches header ls) s.steps s.replies;
      refused = nat_lt 0 (refused_in (start header.profile header.n) (said_batches header ls) s.steps);
      is_text = (s.replies, run_of header ls s);
      prefix = w.prefix;
    }

-- replies of level 0 to each question
abbrev zero_lists : List Ask → List (List Reply)
zero_lists [] = []
zero_lists (ask ∷ asks) = zeros (questions ask) ∷ zero_lists asks

zeros_fit : (asks : List Ask) → Fit asks (zero_lists asks)
zeros_fit [] = tt
zeros_fit (ask ∷ asks) = (start_explains_zeros.vertices (questions ask), zeros_fit asks)

all_explained : (n : ℕ) (history : List Entry) (asks : List Ask) → All (AreExplained n history 0) (zero_lists asks)
all_explained n history [] = All-nil (AreExplained n history 0)
all_explained n history (ask ∷ asks) = All-cons (AreExplained n history 0) (zeros (questions ask)) (zero_lists asks) (start_explains_zeros.explained n history (questions ask)) (all_explained n history asks)

-- the batches after each header have a text
pub has_texts : HasTexts IsRunOf
has_texts header ls =
    let there = start_states header ls in
    let replies = zero_lists header.asks in
    (session_text header (said_batches header ls) there.0 replies, (nat_lt 0 (refused_in (start header.profile header.n) (said_batches header ls) there.0), (replies, is_run header ls there.0 replies there.1 (zeros_fit header.asks) (all_explained header.n (history_of there.0) header.asks))))

pub input_has_text : InputHasText
input_has_text bytes = some_text IsRunOf has_texts (header_of (kept (lines LINE_LIMIT INPUT_LIMIT bytes)))

-- there is exactly one list of steps
one_history : (text : HeaderText) → HasHistory (behind_header MAX_ITEMS text)
one_history (Refused line) = tt
one_history (Accepted header rest) =
    let there = start_states header (tokens rest) in
    record {
      steps = there.0;
      are_steps = there.1;
      only = λ others a. one_run header (start header.profile header.n) (said_batches header (tokens rest)) others there.0 (sound_start header.profile header.n) refl (batches_keep_ranges (rules_of header MAX_ITEMS) (tokens rest)) a there.1;
    }

pub input_has_one_history : InputHasOneHistory
input_has_one_history bytes = one_history (header_of (kept (lines LINE_LIMIT INPUT_LIMIT bytes)))

-- replies that fit have a text
takes : (text : HeaderText) → TakesReplies (behind_header MAX_ITEMS text)
takes (Refused line) = tt
takes (Accepted header rest) = λ ts replies a fit explained.
    (session_text header (said_batches header (tokens rest)) ts replies, (nat_lt 0 (refused_in (start header.profile header.n) (said_batches header (tokens rest)) ts), is_run header (tokens rest) ts replies a fit explained))

pub replies_have_text : RepliesHaveText
replies_have_text bytes = takes (header_of (kept (lines LINE_LIMIT INPUT_LIMIT bytes)))

-- two texts differ in the lines of the readers alone
alike : (text : HeaderText) → HasTextsAlike (behind_header MAX_ITEMS text)
alike (Refused line) = tt
alike (Accepted header rest) = λ replies others text other x y p q.
    let bs = said_batches header (tokens rest) in
    let s = start header.profile header.n in
    let same : q.steps ≡ p.steps = one_run header s bs q.steps p.steps (sound_start header.profile header.n) refl (batches_keep_ranges (rules_of header MAX_ITEMS) (tokens rest)) q.are_steps p.are_steps in
    let first = head_text header.n ++ batch_lines Lines 1 s bs p.steps in (
      record {
        first = first;
        last = tail_text header.profile (graph_at header.n (history_of p.steps) (length (history_of p.steps))) (levels_at header.n (history_of p.steps) (length (history_of p.steps)));
        one = p.text_is ∙ sym (append_assoc (head_text header.n) (batch_lines Lines 1 s bs p.steps) _);
        two = q.text_is ∙ ap (λ (ts : List Step). session_text header bs ts others) same ∙ sym (append_assoc (head_text header.n) (batch_lines Lines 1 s bs p.steps) _);
      },
      sym p.refusal ∙ ap (λ (ts : List Step). nat_lt 0 (refused_in s bs ts)) (sym same) ∙ q.refusal,
    )

pub texts_are_alike : TextsAreAlike
texts_are_alike bytes = alike (header_of (kept (lines LINE_LIMIT INPUT_LIMIT bytes)))
