-- The text of `gen`.
use Rattle.std.proofs.Common.{ℕ, ◌≡◌, ◌+◌, nat_lt, Bool, List, [], ◌∷◌, ◌++◌, length, refl, sym, ap, ◌∙◌, subst, append_assoc}
use Rattle.std.proofs.lemmas.List.{length-map}
use Rattle.std.proofs.lemmas.List.Sums.{sum_by-cons}
use Rattle.std.specs.Prelude.{Option, Some, None, Ok, Err, decimal, codes}
use Rattle.kc_text.specs.Lines.{lines}
use Rattle.kc_text.specs.Writing.{IsPrefix}
use Rattle.kc_text.specs.Kept.{kept}
use Rattle.kc_graph.specs.declared.limits.TheConstants.{MAX_ITEMS}
use Rattle.kc_history.specs.declared.replies.Reply.{Reply}
use Rattle.kc_batch.specs.declared.ask.Ask.{Ask}
use Rattle.kc_batch.specs.declared.token.Token.{Token}
use Rattle.kc_batch.specs.declared.batch.Next.{Next}
use Rattle.kc_batch.specs.HeaderShape.{HeaderShape}
use Rattle.kc_batch.specs.Headers.{HeaderText, Accepted, Refused, header_of}
use Rattle.kc_batch.specs.Tokens.{tokens}
use Rattle.kc_batch.specs.Batches.{batches}
use Rattle.kc_batch.specs.BatchInputs.{rules_of, behind_header}
use Rattle.kc_batch.proofs.lemmas.Inputs.{batches_keep_ranges}
use Rattle.kc_session.specs.declared.ended.Ended.{Ended}
use Rattle.kc_session.specs.declared.fault.SessionFault.{SessionFault}
use Rattle.kc_session.specs.States.{Step, start, last_state}
use Rattle.kc_session.specs.Asking.{Fit}
use Rattle.kc_session.specs.Counts.{capped, refused_in, all_groups, all_moves}
use Rattle.kc_session.specs.Ended.{IsEnded, replies_in, greatest}
use Rattle.kc_session.specs.SessionText.{session_text, WroteSession, WritesSession}
use Rattle.kc_session.proofs.lemmas.Runs.{sound_start, one_run}
use Rattle.kcore.specs.declared.limits.TheConstants.{LINE_LIMIT, INPUT_LIMIT}
use Rattle.kcore.specs.private.InputTexts.{HasTexts}
use Rattle.kcore.specs.LoadText.{load_line, IsLoadOf, IsLoadText}
use Rattle.kcore.specs.private.Writing.{WritesAfter}
use Rattle.kcore.specs.Laws.{HasOneText}
use Rattle.kcore.proofs.InputTexts.{some_text}
use Rattle.kcore.proofs.Texts as run

-- the batches of these lines after a header
abbrev said_batches : HeaderShape → List Token → List Next
said_batches header ls = batches (rules_of header MAX_ITEMS) ls

-- the line as it is composed
pub load_filled : (e : Ended) (top : ℕ) (old b0 b1 b2 b3 b4 b5 b6 b7 : List ℕ) → old ≡ [] → b0 ≡ (old ++ codes "gen batches ") ++ decimal e.batches → b1 ≡ (b0 ++ codes " refused ") ++ decimal e.refused
    → b2 ≡ (b1 ++ codes " phases ") ++ decimal e.phases → b3 ≡ (b2 ++ codes " groups ") ++ decimal e.groups → b4 ≡ (b3 ++ codes " moves ") ++ decimal e.moves → b5 ≡ (b4 ++ codes " edges ") ++ decimal e.edges
    → b6 ≡ (b5 ++ codes " replies ") ++ decimal e.replies → top ≡ e.top → b7 ≡ (b6 ++ codes " top ") ++ decimal top → b7 ++ 10 ∷ [] ≡ load_line e
load_filled e top old b0 b1 b2 b3 b4 b5 b6 b7 z e0 e1 e2 e3 e4 e5 e6 same e7 = rw (e7, same, e6, e5, e4, e3, e2, e1, e0, z) (simp append_assoc)

-- equal counts have one line
same_line : (e f : Ended) → e.batches ≡ f.batches → e.refused ≡ f.refused → e.phases ≡ f.phases → e.groups ≡ f.groups → e.moves ≡ f.moves → e.edges ≡ f.edges → e.replies ≡ f.replies → e.top ≡ f.top → load_line e ≡ load_line f
same_line e f e0 e1 e2 e3 e4 e5 e6 e7 = rw (e0, e1, e2, e3, e4, e5, e6, e7) refl

-- there are as many replies as questions
same_number : (asks : List Ask) (replies others : List (List Reply)) → Fit asks replies → Fit asks others → replies_in replies ≡ replies_in others
same_number [] [] [] f g = refl
same_number [] [] (o ∷ os) f g = absurd g
same_number [] (r ∷ rs) others f g = absurd f
same_number (ask ∷ asks) [] others f g = absurd f
same_number (ask ∷ asks) (r ∷ rs) [] f g = absurd g
same_number (ask ∷ asks) (r ∷ rs) (o ∷ os) f g =
    let e : length r ≡ length o = sym (length-map r (λ (x : Reply). x.vertex)) ∙ ap (λ (vs : List ℕ). length vs) (f.0 ∙ sym g.0) ∙ length-map o (λ (x : Reply). x.vertex) in
    let rest : replies_in rs ≡ replies_in os = same_number asks rs os f.1 g.1 in
    sum_by-cons (λ (xs : List Reply). length xs) r rs ∙ ap (λ (m : ℕ). m + replies_in rs) e ∙ ap (λ (m : ℕ). length o + m) rest ∙ sym (sum_by-cons (λ (xs : List Reply). length xs) o os)

-- the counts of the steps of batches
abbrev ended_of : HeaderShape → List Next → List Step → List (List Reply) → Ended
ended_of header bs ts replies = record {
  batches = length bs;
  refused = refused_in (start header.profile header.n) bs ts;
  phases = (last_state (start header.profile header.n) ts).phases;
  groups = capped (all_groups ts);
  moves = capped (all_moves ts);
  edges = length (last_state (start header.profile header.n) ts).graph.edges;
  replies = replies_in replies;
  top = greatest (last_state (start header.profile header.n) ts).levels;
}

-- the counts of a session are a text
came_to : (header : HeaderShape) (bs : List Next) (before now : Option (List ℕ)) (ended : Ended) → WroteSession session_text header bs before now ended → IsLoadOf header bs (load_line ended) (nat_lt 0 ended.refused)
came_to header bs before now ended w = record {
  steps = w.session.steps;
  are_steps = w.session.are_steps;
  replies = w.session.replies;
  fit = w.session.fit;
  ended = ended;
  is_ended = w.ends;
  text_is = refl;
  refusal = refl;
}

-- a prefix of the line was written
pub load_prefix : (header : HeaderShape) (told : Option (List Next)) (old new before now : Option (List ℕ)) (ended : Ended) (fault : SessionFault)
    → WritesSession session_text header told old new (Ok ended) → IsPrefix before now (load_line ended) → WritesAfter (IsLoadOf header) told before now (Err fault)
load_prefix header None old new before now ended fault w p = tt
load_prefix header (Some bs) old new before now ended fault w p = record {
  text = load_line ended;
  refused = nat_lt 0 ended.refused;
  is_text = came_to header bs old new ended w;
  prefix = p;
}

-- each header with its batches has a text
pub has_texts : HasTexts IsLoadOf
has_texts header ls =
    let there = run.has_texts header ls in
    let r = there.1.1.1 in
    let e = ended_of header (said_batches header ls) r.steps there.1.1.0 in (
      load_line e,
      (
        nat_lt 0 e.refused,
        record {
          steps = r.steps;
          are_steps = r.are_steps;
          replies = there.1.1.0;
          fit = r.fit;
          ended = e;
          is_ended = record { count = refl; refused = refl; phases = refl; groups = refl; moves = refl; edges = refl; replies = refl; top = refl };
          text_is = refl;
          refusal = refl;
        },
      ),
    )

-- a header with its batches has only one text
one_after : (text : HeaderText) (a b : List ℕ) (x y : Bool) → IsLoadText (behind_header MAX_ITEMS text) a x → IsLoadText (behind_header MAX_ITEMS text) b y → (a ≡ b) × (x ≡ y)
one_after (Refused line) a b x y p q = (p.0 ∙ sym q.0, p.1 ∙ sym q.1)
one_after (Accepted header rest) a b x y p q =
    let bs = said_batches header (tokens rest) in
    let same : p.steps ≡ q.steps = one_run header (start header.profile header.n) bs p.steps q.steps (sound_start header.profile header.n) refl (batches_keep_ranges (rules_of header MAX_ITEMS) (tokens rest)) p.are_steps q.are_steps in
    let k : IsEnded header bs q.steps p.replies p.ended = subst (λ (ts : List Step). IsEnded header bs ts p.replies p.ended) same p.is_ended in
    let l = q.is_ended in
    let refused : p.ended.refused ≡ q.ended.refused = k.refused ∙ sym l.refused in
    let line : load_line p.ended ≡ load_line q.ended =
    same_line p.ended q.ended (k.count ∙ sym l.count) refused (k.phases ∙ sym l.phases) (k.groups ∙ sym l.groups) (k.moves ∙ sym l.moves) (k.edges ∙ sym l.edges)
    (k.replies ∙ same_number header.asks p.replies q.replies p.fit q.fit ∙ sym l.replies) (k.top ∙ sym l.top) in (
      p.text_is ∙ line ∙ sym q.text_is,
      sym p.refusal ∙ ap (λ (m : ℕ). nat_lt 0 m) refused ∙ q.refusal,
    )

pub input_has_one_load_text : HasOneText IsLoadText
input_has_one_load_text bytes =
    let text = header_of (kept (lines LINE_LIMIT INPUT_LIMIT bytes)) in
    let there = some_text IsLoadOf has_texts text in
    (there.0, (there.1.0, (there.1.1, λ a x p. one_after text a there.0 x there.1.0 p there.1.1)))
