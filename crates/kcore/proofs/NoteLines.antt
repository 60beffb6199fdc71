-- Notes are lines that are skipped.
use Rattle.std.proofs.Common.{ℕ, zero, suc, ◌+◌, ◌/◌, ◌%◌, ◌≤◌, ◌<◌, ◌≡◌, true, false, List, [], ◌∷◌, ◌++◌, length, refl, sym, ap, ◌∙◌, arith, length-append}
use Rattle.std.specs.Prelude.{Option, Some, None, ◌==◌, nat_lt, decimal, codes, if◌then◌else◌}
use Rattle.std.specs.Fmt.{digits, digits_onto, digit_glyph}
use Rattle.std.specs.List.{list_all, join_with_byte}
use Rattle.std.proofs.lemmas.Bool.{and_from, le-leb}
use Rattle.std.proofs.lemmas.Bool.Decides.{nat_tests}
use Rattle.std.proofs.lemmas.List.{append-nil}
use Rattle.std.proofs.lemmas.List.Concat.{flat_map-append}
use Rattle.std.proofs.lemmas.List.Folds.{list_all-append}
use Rattle.kc_text.specs.declared.reason.Reason.{Reason}
use Rattle.kc_text.specs.declared.reason.Reason.TheVariants.{Header, LineLong, BadLine, BadVertex, TooMany, Truncated, InputLimit, EdgeLimit, PhaseLimit}
use Rattle.kc_text.specs.Printing.{is_word, is_line, printed_line, printed}
use Rattle.kc_text.specs.Reasons.{reason_word}
use Rattle.kc_text.specs.Words.{is_skip}
use Rattle.kc_batch.specs.declared.batch.Next.{Next}
use Rattle.kc_batch.specs.declared.batch.Next.TheVariants.{Items, Refused, End}
use Rattle.kc_graph.specs.Cleaning.{cleaned}
use Rattle.kc_graph.specs.declared.cleaning.Cleaned.{Cleaned}
use Rattle.kc_groups.specs.declared.plans.PhasePlan.{PhasePlan}
use Rattle.kc_engine.specs.States.{State}
use Rattle.kc_engine.specs.declared.faults.EngineFault.{EngineFault}
use Rattle.kc_report.specs.Lines.{note_line}
use Rattle.kc_session.specs.declared.report.Report.TheVariants.{Notes}
use Rattle.kc_session.specs.Reports.{cleaned_text}
use Rattle.kc_session.specs.RunText.{step_text, batch_lines}
use Rattle.kc_session.specs.States.{Step, refusal_of, reason_of}
use Rattle.kcore.specs.declared.limits.TheConstants.{LINE_LIMIT}

glyph : (n : ℕ) → nat_lt 32 (digit_glyph false (n % 10)) ≡ true
glyph n =
    let low : nat_lt (n % 10) 10 ≡ true = grind (arith, nat_tests) in
    rw low (grind (arith, nat_tests))

digits_on : (k n : ℕ) (acc : List ℕ) → list_all (λ b. nat_lt 32 b) acc ≡ true → list_all (λ b. nat_lt 32 b) (digits_onto k 10 false n acc) ≡ true
digits_on zero n acc h = h
digits_on (suc k) n acc h =
    let here : list_all (λ b. nat_lt 32 b) (digit_glyph false (n % 10) ∷ acc) ≡ true = and_from _ _ (glyph n) h in
    elim (n / 10 == 0) as (λ b. list_all (λ x. nat_lt 32 x) (if b then digit_glyph false (n % 10) ∷ acc else digits_onto k 10 false (n / 10) (digit_glyph false (n % 10) ∷ acc)) ≡ true) [
      | true ↦ here
      | false ↦ digits_on k (n / 10) (digit_glyph false (n % 10) ∷ acc) here
    ]

digits_short : (k n : ℕ) (acc : List ℕ) → (length acc ≤ length (digits_onto k 10 false n acc)) × (length (digits_onto k 10 false n acc) ≤ k + length acc)
digits_short zero n acc = (omega arith, omega arith)
digits_short (suc k) n acc = grind (arith, nat_tests, digits_short k (n / 10) (digit_glyph false (n % 10) ∷ acc))

digits_some : (k n : ℕ) → 0 < length (digits_onto (suc k) 10 false n [])
digits_some k n = grind (arith, nat_tests, digits_short)

number_word : (n : ℕ) → is_word (decimal n) ≡ true
unfolding digits
number_word n = and_from _ _ (some (length (digits_onto 64 10 false n [])) (digits_some 63 n)) (digits_on 64 n [] refl)
  where
    some : (m : ℕ) → 0 < m → nat_lt 0 m ≡ true
    some m h = grind (arith, nat_tests, h)

number_short : (n : ℕ) → length (decimal n) ≤ 64
unfolding digits
number_short n = omega (arith, (digits_short 64 n []).1)

reason_is_word : (r : Reason) → is_word (reason_word r) ≡ true
reason_is_word Header = refl
reason_is_word LineLong = refl
reason_is_word BadLine = refl
reason_is_word BadVertex = refl
reason_is_word TooMany = refl
reason_is_word Truncated = refl
reason_is_word InputLimit = refl
reason_is_word EdgeLimit = refl
reason_is_word PhaseLimit = refl

reason_short : (r : Reason) → length (reason_word r) ≤ 11
reason_short Header = omega arith
reason_short LineLong = omega arith
reason_short BadLine = omega arith
reason_short BadVertex = omega arith
reason_short TooMany = omega arith
reason_short Truncated = omega arith
reason_short InputLimit = omega arith
reason_short EdgeLimit = omega arith
reason_short PhaseLimit = omega arith

-- the words of a note
note_words : ℕ → ℕ → Reason → List (List ℕ)
note_words number line reason = codes "#" ∷ codes "batch" ∷ decimal number ∷ codes "refused" ∷ codes "line" ∷ decimal line ∷ reason_word reason ∷ []

note_is : (number line : ℕ) (reason : Reason) → note_line number line reason ≡ printed_line (note_words number line reason)
unfolding note_words
note_is number line reason = refl

note_prints : (number line : ℕ) (reason : Reason) → is_line LINE_LIMIT (note_words number line reason) ≡ true
unfolding note_words
note_prints number line reason =
    let after : List ℕ = decimal line ++ 32 ∷ reason_word reason in
    let short : length (join_with_byte 32 (note_words number line reason)) ≤ LINE_LIMIT =
    omega (arith, number_short number, number_short line, reason_short reason, length-append (decimal number) (32 ∷ (codes "refused" ++ 32 ∷ (codes "line" ++ 32 ∷ after))), length-append (decimal line) (32 ∷ reason_word reason)) in
    and_from _ _ (rw (number_word number, number_word line, reason_is_word reason) refl) (le-leb _ _ short)

-- lines that are skipped
pub record AreNotes (text : List ℕ) : Type 0 where
  pub lines : List (List (List ℕ))
  pub text_is : text ≡ printed lines
  pub print : list_all (is_line LINE_LIMIT) lines ≡ true
  pub skip : list_all is_skip lines ≡ true

no_notes : AreNotes []
unfolding printed
no_notes = record { lines = []; text_is = refl; print = refl; skip = refl }

one_note : (number line : ℕ) (reason : Reason) → AreNotes (note_line number line reason)
unfolding printed note_words
one_note number line reason = record {
  lines = note_words number line reason ∷ [];
  text_is = note_is number line reason ∙ sym (append-nil (printed_line (note_words number line reason)));
  print = and_from _ _ (note_prints number line reason) refl;
  skip = refl;
}

both_notes : (a b : List ℕ) → AreNotes a → AreNotes b → AreNotes (a ++ b)
unfolding printed
both_notes a b x y = record {
  lines = x.lines ++ y.lines;
  text_is = ap (λ (t : List ℕ). t ++ b) x.text_is ∙ ap (λ (t : List ℕ). printed x.lines ++ t) y.text_is ∙ sym (flat_map-append printed_line x.lines y.lines);
  print = list_all-append (is_line LINE_LIMIT) x.lines y.lines ∙ and_from _ _ x.print y.print;
  skip = list_all-append is_skip x.lines y.lines ∙ and_from _ _ x.skip y.skip;
}

cleaned_notes : (number line : ℕ) (c : Cleaned) (o : Option EngineFault) (phases : List PhasePlan) → AreNotes (cleaned_text Notes number line c o phases)
cleaned_notes number line c None phases = no_notes
cleaned_notes number line c (Some fault) phases = one_note number line (reason_of fault)

step_notes : (number : ℕ) (s : State) (b : Next) (phases : List PhasePlan) → AreNotes (step_text Notes number s b phases)
step_notes number s (Items batch) phases = cleaned_notes number batch.line (cleaned s.graph batch.items) (refusal_of s (cleaned s.graph batch.items)) phases
step_notes number s (Refused line reason) phases = one_note number line reason
step_notes number s End phases = no_notes

pub are_notes : (number : ℕ) (s : State) (bs : List Next) (ts : List Step) → AreNotes (batch_lines Notes number s bs ts)
are_notes number s [] ts = no_notes
are_notes number s (b ∷ bs) [] = no_notes
are_notes number s (b ∷ bs) (t ∷ ts) = both_notes (step_text Notes number s b t.phases) (batch_lines Notes (number + 1) t.state bs ts) (step_notes number s b t.phases) (are_notes (number + 1) t.state bs ts)
