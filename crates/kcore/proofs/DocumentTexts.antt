-- Texts that end in a document, from their parts.
use Rattle.std.proofs.Common.{ℕ, ◌≡◌, Bool, List, ◌++◌, nat_lt, refl, sym, ap, ◌∙◌, subst}
use Rattle.std.specs.Prelude.{Option, Some, None, Ok, Err}
use Rattle.std.specs.Option.{option_map}
use Rattle.kc_text.specs.declared.buf.SendFault.{SendFault}
use Rattle.kc_text.specs.Lines.{lines}
use Rattle.kc_text.specs.Kept.{kept}
use Rattle.kc_text.proofs.lemmas.Writing.{append_twice, prefix_longer, prefix_then}
use Rattle.kc_graph.specs.declared.limits.TheConstants.{MAX_EDGES, MAX_ITEMS}
use Rattle.kc_batch.specs.declared.token.Token.{Token}
use Rattle.kc_batch.specs.declared.batch.Next.{Next}
use Rattle.kc_batch.specs.HeaderShape.{HeaderShape}
use Rattle.kc_batch.specs.Headers.{HeaderText, Accepted, Refused, header_of}
use Rattle.kc_batch.specs.Tokens.{tokens}
use Rattle.kc_batch.specs.Batches.{batches}
use Rattle.kc_batch.specs.BatchInputs.{rules_of, behind_header}
use Rattle.kc_batch.proofs.lemmas.Inputs.{batches_keep_ranges}
use Rattle.kc_engine.specs.States.{State, IsSound}
use Rattle.kc_session.specs.declared.report.Report.TheVariants.{Notes}
use Rattle.kc_session.specs.declared.fault.SessionFault.{SessionFault}
use Rattle.kc_session.specs.declared.settling.Settled.{Settled}
use Rattle.kc_session.specs.States.{Step, start, AreSteps, last_state}
use Rattle.kc_session.specs.Counts.{refused_in}
use Rattle.kc_session.specs.RunText.{batch_lines}
use Rattle.kc_session.specs.Settling.{Settles}
use Rattle.kc_session.proofs.lemmas.Runs.{sound_start, sound_last, one_run, start_states}
use Rattle.kcore.specs.declared.limits.TheConstants.{LINE_LIMIT, INPUT_LIMIT}
use Rattle.kcore.specs.InputTexts.{IsTextOf}
use Rattle.kcore.specs.private.InputTexts.{HasTexts}
use Rattle.kcore.specs.Documents.{EndsInDocument}
use Rattle.kcore.specs.private.Documents.{WritesDocument, HasDocuments}
use Rattle.kcore.specs.Laws.{HasOneText}
use Rattle.kcore.specs.private.Writing.{WritesAfter}
use Rattle.kcore.proofs.InputTexts.{some_text}

-- the batches of these lines after a header
abbrev said_batches : HeaderShape → List Token → List Next
said_batches header ls = batches (rules_of header MAX_ITEMS) ls

-- the state after these steps
abbrev after : HeaderShape → List Step → State
after header ts = last_state (start header.profile header.n) ts

-- the text for these states and this document
abbrev whole : HeaderShape → List Next → List Step → List ℕ → List ℕ
whole header bs ts document = batch_lines Notes 1 (start header.profile header.n) bs ts ++ document

abbrev some_refused : HeaderShape → List Next → List Step → Bool
some_refused header bs ts = nat_lt 0 (refused_in (start header.profile header.n) bs ts)

ends_in : (IsDocument : State → List ℕ → Type 0) (header : HeaderShape) (bs : List Next) (ts : List Step) (document : List ℕ) → AreSteps (start header.profile header.n) bs ts → IsDocument (after header ts) document
    → EndsInDocument IsDocument header bs (whole header bs ts document) (some_refused header bs ts)
ends_in IsDocument header bs ts document a k = record { steps = ts; are_steps = a; document = document; is_document = k; text_is = refl; refusal = refl }

pub sound_after : (header : HeaderShape) (ls : List Token) (ts : List Step) → AreSteps (start header.profile header.n) (said_batches header ls) ts → IsSound MAX_EDGES (after header ts) × ((after header ts).graph.vertices ≡ header.n)
sound_after header ls ts a = sound_last header (start header.profile header.n) (said_batches header ls) ts (sound_start header.profile header.n) refl (batches_keep_ranges (rules_of header MAX_ITEMS) ls) a

-- the batches after each header have a text
pub has_texts : (IsDocument : State → List ℕ → Type 0) → HasDocuments IsDocument → HasTexts (EndsInDocument IsDocument)
has_texts IsDocument has header ls =
    let bs = said_batches header ls in
    let there = start_states header ls in
    let d = has (after header there.0) (sound_after header ls there.0 there.1).0 in
    (whole header bs there.0 d.0, (some_refused header bs there.0, ends_in IsDocument header bs there.0 d.0 there.1 d.1))

-- a prefix of the notes was written
pub notes_prefix : (IsDocument : State → List ℕ → Type 0) → HasDocuments IsDocument → (header : HeaderShape) (toks : Option (List Token)) (before now : Option (List ℕ)) (fault other : SessionFault)
    → Settles header (option_map (batches (rules_of header MAX_ITEMS)) toks) before now (Err other) → WritesAfter (EndsInDocument IsDocument header) (option_map (batches (rules_of header MAX_ITEMS)) toks) before now (Err fault)
notes_prefix IsDocument has header None before now fault other w = tt
notes_prefix IsDocument has header (Some ls) before now fault other w =
    let bs = said_batches header ls in
    let d = has (after header w.steps) (sound_after header ls w.steps w.are_steps).0 in
    record {
      text = whole header bs w.steps d.0;
      refused = some_refused header bs w.steps;
      is_text = ends_in IsDocument header bs w.steps d.0 w.are_steps d.1;
      prefix = prefix_longer before now (batch_lines Notes 1 (start header.profile header.n) bs w.steps) _ w.prefix;
    }

-- the notes were written, and a prefix of the document
pub document_prefix : {T : Type 0} → (IsDocument : State → List ℕ → Type 0) (header : HeaderShape) (told : Option (List Next)) (settled : Settled) (before now later : Option (List ℕ)) (fault : SessionFault) (other : SendFault)
    → Settles header told before now (Ok settled) → WritesDocument {T = T} IsDocument settled.engine.state now later (Err other) → WritesAfter (EndsInDocument IsDocument header) told before later (Err fault)
document_prefix IsDocument header None settled before now later fault other w d = tt
document_prefix IsDocument header (Some bs) settled before now later fault other w d =
    record {
      text = whole header bs w.steps d.document;
      refused = some_refused header bs w.steps;
      is_text = ends_in IsDocument header bs w.steps d.document w.are_steps (subst (λ (s : State). IsDocument s d.document) (sym w.last) d.is_document);
      prefix = prefix_then before now later (batch_lines Notes 1 (start header.profile header.n) bs w.steps) _ w.taken d.appends;
    }

-- the whole text was written
pub document_written : {T : Type 0} → (IsDocument : State → List ℕ → Type 0) (header : HeaderShape) (told : Option (List Next)) (settled : Settled) (before now later : Option (List ℕ)) (x : T) (refused : Bool)
    → refused ≡ nat_lt 0 settled.refused → Settles header told before now (Ok settled) → WritesDocument {T = T} IsDocument settled.engine.state now later (Ok x) → WritesAfter (EndsInDocument IsDocument header) told before later (Ok refused)
document_written IsDocument header None settled before now later x refused is w d = tt
document_written IsDocument header (Some bs) settled before now later x refused is w d =
    record {
      text = whole header bs w.steps d.document;
      is_text = record {
        steps = w.steps;
        are_steps = w.are_steps;
        document = d.document;
        is_document = subst (λ (s : State). IsDocument s d.document) (sym w.last) d.is_document;
        text_is = refl;
        refusal = ap (λ (m : ℕ). nat_lt 0 m) (sym w.count) ∙ sym is;
      };
      taken = append_twice before now later (batch_lines Notes 1 (start header.profile header.n) bs w.steps) _ w.taken d.appends;
    }

-- there is one text if a state has one document
one_after : (IsDocument : State → List ℕ → Type 0) → ((s : State) (a b : List ℕ) → IsDocument s a → IsDocument s b → a ≡ b) → (text : HeaderText) (a b : List ℕ) (x y : Bool)
    → IsTextOf (EndsInDocument IsDocument) (behind_header MAX_ITEMS text) a x → IsTextOf (EndsInDocument IsDocument) (behind_header MAX_ITEMS text) b y → (a ≡ b) × (x ≡ y)
one_after IsDocument one (Refused line) a b x y p q = (p.0 ∙ sym q.0, p.1 ∙ sym q.1)
one_after IsDocument one (Accepted header rest) a b x y p q =
    let bs = said_batches header (tokens rest) in
    let same : p.steps ≡ q.steps = one_run header (start header.profile header.n) bs p.steps q.steps (sound_start header.profile header.n) refl (batches_keep_ranges (rules_of header MAX_ITEMS) (tokens rest)) p.are_steps q.are_steps in
    let there : IsDocument (after header q.steps) p.document = subst (λ (ts : List Step). IsDocument (after header ts) p.document) same p.is_document in
    let document : p.document ≡ q.document = one (after header q.steps) p.document q.document there q.is_document in (
      p.text_is ∙ ap (λ (ts : List Step). whole header bs ts p.document) same ∙ ap (λ (d : List ℕ). whole header bs q.steps d) document ∙ sym q.text_is,
      sym p.refusal ∙ ap (λ (ts : List Step). some_refused header bs ts) same ∙ q.refusal,
    )

pub has_one_text : (IsDocument : State → List ℕ → Type 0) → HasDocuments IsDocument → ((s : State) (a b : List ℕ) → IsDocument s a → IsDocument s b → a ≡ b) → HasOneText (IsTextOf (EndsInDocument IsDocument))
has_one_text IsDocument has one bytes =
    let text = header_of (kept (lines LINE_LIMIT INPUT_LIMIT bytes)) in
    let there = some_text (EndsInDocument IsDocument) (has_texts IsDocument has) text in
    (there.0, (there.1.0, (there.1.1, λ a x p. one_after IsDocument one text a there.0 x there.1.0 p there.1.1)))
