-- A command has no other answer than the one that its bytes decide, except for a fault that rose and for no memory.
use Rattle.std.proofs.Common.{ℕ, ◌≡◌, Bool, true, false, List, refl, sym, ap, ◌∙◌, inl, inr, arith}
use Rattle.std.specs.Prelude.{Option}
use Rattle.std.proofs.lemmas.Bool.Decides.{nat_tests}
use Rattle.kc_text.specs.Causes.{Rose}
use Rattle.kc_batch.specs.BatchInputs.{BatchInput, WithBatches, HeaderRefused}
use Rattle.kc_cert.specs.declared.certificate.Certificate.{Certificate}
use Rattle.kc_cert.specs.declared.verdict.Verdict.{Verdict}
use Rattle.kc_cert.specs.declared.verdict.Verdict.TheVariants.{Certified, Upper, Lower}
use Rattle.kc_cert.specs.Documents as certificate
use Rattle.kc_cert.specs.Laws.{document_in as certificate_in}
use Rattle.kc_cert.specs.Verdicts as certificate_verdict
use Rattle.kc_audit.specs.declared.run_text.RunText.{RunText}
use Rattle.kc_audit.specs.declared.verdict.AuditVerdict.{AuditVerdict}
use Rattle.kc_audit.specs.declared.verdict.AuditVerdict.TheVariants.{Explained, Unexplained}
use Rattle.kc_audit.specs.Documents as run_text
use Rattle.kc_audit.specs.Verdicts as run_verdict
use Rattle.kc_audit.proofs.lemmas.Verdicts.{explained_passes}
use Rattle.kcore.specs.declared.command.Command.{Command}
use Rattle.kcore.specs.declared.command.Command.TheVariants.{Run, Final, Orient, Exact, Check, Audit, Dense, Gen}
use Rattle.kcore.specs.declared.limits.TheConstants.{LINE_LIMIT, RUN_LINE_LIMIT, INPUT_LIMIT}
use Rattle.kc_shell.specs.declared.status.Status.{Status}
use Rattle.kc_shell.specs.declared.status.Status.TheVariants.{Done, Refused, Usage, ReadFault, WriteFault, Memory}
use Rattle.kcore.specs.Inputs.{input_said}
use Rattle.kcore.specs.RunText.{IsRunText}
use Rattle.kcore.specs.CheckText as check
use Rattle.kcore.specs.AuditText as audit
use Rattle.kcore.specs.ExactText.{IsExactText}
use Rattle.kcore.specs.FinalText.{IsFinalText}
use Rattle.kcore.specs.OrientText.{IsOrientText}
use Rattle.kcore.specs.DenseText.{IsDenseText}
use Rattle.kcore.specs.LoadText.{IsLoadText}
use Rattle.kcore.specs.Laws.{HasTextsAlike, HasOneText}
use Rattle.kc_shell.specs.Statuses.{HasCause}
use Rattle.kcore.specs.Commands.{IsText, Wrote, Answers, Decide, EndsAsDecided, IsComplete}
use Rattle.kcore.proofs.Texts.{texts_are_alike}
use Rattle.kcore.proofs.FinalTexts.{input_has_one_final_text}
use Rattle.kcore.proofs.OrientTexts.{input_has_one_orient_text}
use Rattle.kcore.proofs.ExactTexts.{input_has_one_exact_text}
use Rattle.kcore.proofs.DenseTexts.{input_has_one_dense_text}
use Rattle.kcore.proofs.LoadTexts.{input_has_one_load_text}

-- two texts of runs of one input are both refused, or neither is
same_run : (input : BatchInput) (text other : List ℕ) (x y : Bool) → HasTextsAlike input → IsRunText input text x → IsRunText input other y → x ≡ y
same_run (HeaderRefused line) text other x y alike p q = p.1 ∙ sym q.1
same_run (WithBatches header batches) text other x y alike p q = (alike p.0 q.0 text other x y p.1 q.1).1

-- the same for an input that has one text
same_text : (IsText : BatchInput → List ℕ → Bool → Type 0) (bytes text other : List ℕ) (x y : Bool) → HasOneText IsText → IsText (input_said bytes) text x → IsText (input_said bytes) other y → x ≡ y
same_text IsText bytes text other x y one p q = let there = one bytes in (there.1.1.1 text x p).1 ∙ sym (there.1.1.1 other y q).1

-- a certificate breaks an invariant or it doesn't
same_breach : (cert : Certificate) (a b : Verdict) → certificate_verdict.IsVerdict cert a → certificate_verdict.IsVerdict cert b → check.is_breach a ≡ check.is_breach b
same_breach cert Certified Certified p q = refl
same_breach cert Certified (Upper v) p q = absurd (q.breaks (p.upper v q.vertex))
same_breach cert Certified (Lower v) p q = absurd (q.breaks (p.lower v q.vertex))
same_breach cert (Upper v) Certified p q = absurd (p.breaks (q.upper v p.vertex))
same_breach cert (Lower v) Certified p q = absurd (p.breaks (q.lower v p.vertex))
same_breach cert (Upper v) (Upper w) p q = refl
same_breach cert (Upper v) (Lower w) p q = refl
same_breach cert (Lower v) (Upper w) p q = refl
same_breach cert (Lower v) (Lower w) p q = refl

same_check : (d : certificate.Document) (text other : List ℕ) (x y : Bool) → check.IsDocumentText d text x → check.IsDocumentText d other y → x ≡ y
same_check (certificate.Accepted cert) text other x y p q = p.refusal ∙ same_breach cert p.verdict q.verdict p.is_verdict q.is_verdict ∙ sym q.refusal
same_check (certificate.Refused line reason) text other x y p q = p.1 ∙ sym q.1

-- a run is explained or it isn't
same_explained : (run : RunText) (a b : AuditVerdict) → run_verdict.IsVerdict run a → run_verdict.IsVerdict run b → audit.is_unexplained a ≡ audit.is_unexplained b
same_explained run Explained b p q = sym (ap audit.is_unexplained (explained_passes run b p q))
same_explained run (Unexplained r k) Explained p q = ap audit.is_unexplained (explained_passes run (Unexplained r k) q p)
same_explained run (Unexplained r k) (Unexplained s j) p q = refl

same_audit : (d : run_text.Document) (text other : List ℕ) (x y : Bool) → audit.IsDocumentText d text x → audit.IsDocumentText d other y → x ≡ y
same_audit (run_text.Accepted run) text other x y p q = p.refusal ∙ same_explained run p.verdict q.verdict p.is_verdict q.is_verdict ∙ sym q.refusal
same_audit (run_text.Refused line reason) text other x y p q = p.1 ∙ sym q.1

-- two texts of a command for the same bytes are both refused, or neither is
same_refusal : (command : Command) (bytes text other : List ℕ) (x y : Bool) → IsText command bytes text x → IsText command bytes other y → x ≡ y
same_refusal (Run workers) bytes text other x y p q = same_run (input_said bytes) text other x y (texts_are_alike bytes) p q
same_refusal (Final workers) bytes text other x y p q = same_text IsFinalText bytes text other x y input_has_one_final_text p q
same_refusal (Orient workers) bytes text other x y p q = same_text IsOrientText bytes text other x y input_has_one_orient_text p q
same_refusal Exact bytes text other x y p q = same_text IsExactText bytes text other x y input_has_one_exact_text p q
same_refusal Check bytes text other x y p q = same_check (certificate_in LINE_LIMIT INPUT_LIMIT bytes) text other x y p q
same_refusal Audit bytes text other x y p q = same_audit (run_text.document_in RUN_LINE_LIMIT INPUT_LIMIT bytes) text other x y p q
same_refusal Dense bytes text other x y p q = same_text IsDenseText bytes text other x y input_has_one_dense_text p q
same_refusal (Gen seed n batches items workers) bytes text other x y p q = same_text IsLoadText bytes text other x y input_has_one_load_text p q

decide : (command : Command) (bytes text : List ℕ) (refused : Bool) → IsText command bytes text refused → Decide command bytes refused
decide command bytes text refused t = record { text = text; is_text = t; same = λ other says s. same_refusal command bytes other text says refused s t }

ends_as_decided : (command : Command) (bytes : List ℕ) (before now : Option (List ℕ)) (r0 r1 w0 w1 : ℕ) (status : Status)
    → Wrote command bytes before now status → HasCause r0 r1 w0 w1 status → ¬ (Rose r0 r1) → ¬ (Rose w0 w1) → EndsAsDecided command bytes status
ends_as_decided command bytes before now r0 r1 w0 w1 Done w cause r s = record { refused = false; decided = decide command bytes w.text false w.is_text; ended = inl refl }
ends_as_decided command bytes before now r0 r1 w0 w1 Refused w cause r s = record { refused = true; decided = decide command bytes w.text true w.is_text; ended = inl refl }
ends_as_decided command bytes before now r0 r1 w0 w1 Usage w cause r s = absurd w
ends_as_decided command bytes before now r0 r1 w0 w1 ReadFault w cause r s = absurd (r cause.0)
ends_as_decided command bytes before now r0 r1 w0 w1 WriteFault w cause r s = absurd (s cause.1)
ends_as_decided command bytes before now r0 r1 w0 w1 Memory w cause r s = record { refused = w.refused; decided = decide command bytes w.text w.refused w.is_text; ended = inr refl }

-- the clauses on an answer and its cause leave no other answer
pub complete : (asked : Option Command) (left before now : Option (List ℕ)) (r0 r1 w0 w1 : ℕ) (status : Status) → Answers asked left before now status → HasCause r0 r1 w0 w1 status → IsComplete asked left r0 r1 w0 w1 status
complete asked left before now r0 r1 w0 w1 status answer cause = grind (arith, nat_tests, ends_as_decided)
