-- The text of `audit` for the content that was read.
use Rattle.std.proofs.Common.{ℕ, ◌≡◌, Bool, true, List, refl}
use Rattle.std.specs.Prelude.{Option, Some, None, Result, Ok, Err}
use Rattle.std.specs.Option.{option_map}
use Rattle.std.specs.Io.KnownBytes.{append_known}
use Rattle.kc_text.specs.declared.document_fault.DocumentFault.{DocumentFault}
use Rattle.kc_text.specs.declared.document_fault.DocumentFault.TheVariants as fault
use Rattle.kc_text.specs.declared.reason.Reason.{Reason}
use Rattle.kc_text.specs.Lines.{lines}
use Rattle.kc_text.specs.Reading.{Reading, lines_left}
use Rattle.kc_text.specs.Writing.{IsPrefix}
use Rattle.kc_text.specs.Kept.{kept_left}
use Rattle.kc_text.proofs.lemmas.Writing.{prefix_none}
use Rattle.kc_audit.specs.declared.run_text.RunText.{RunText}
use Rattle.kc_audit.specs.declared.verdict.AuditVerdict.{AuditVerdict}
use Rattle.kc_audit.specs.Documents.{Document, Accepted, Refused, document_of, document_in}
use Rattle.kc_audit.specs.Reads.{IsAnswer, Answers}
use Rattle.kc_audit.specs.Verdicts.{IsVerdict}
use Rattle.kc_audit.proofs.lemmas.Verdicts.{has_verdict}
use Rattle.kc_session.specs.declared.fault.SessionFault.{SessionFault}
use Rattle.kcore.specs.declared.limits.TheConstants.{RUN_LINE_LIMIT, INPUT_LIMIT}
use Rattle.kcore.specs.AuditText.{verdict_line, is_unexplained, IsDocumentText}
use Rattle.kcore.specs.private.AuditText.{WritesAudit}
use Rattle.kcore.specs.DocumentLines.{refused_document_line}

-- each document has a text
some_text : (d : Document) → (text : List ℕ) × ((refused : Bool) × IsDocumentText d text refused)
some_text (Accepted run) =
    let v = has_verdict run in
    (verdict_line v.0, (is_unexplained v.0, record { verdict = v.0; is_verdict = v.1; text_is = refl; refusal = refl }))
some_text (Refused line reason) = (refused_document_line line reason, (true, (refl, refl)))

-- nothing was written
pub nothing_written : (left before : Option (List ℕ)) (f : SessionFault) → WritesAudit left before before (Err f)
nothing_written None before f = tt
nothing_written (Some bytes) before f =
    let t = some_text (document_in RUN_LINE_LIMIT INPUT_LIMIT bytes) in
    record { text = t.0; refused = t.1.0; is_text = t.1.1; prefix = prefix_none before before t.0 refl }

-- the answer to a reader at the first line is the content of the bytes
said : (r : Reading) (bytes : List ℕ) (result : Result RunText DocumentFault) → ((left : Option (List ℕ)) → lines_left r left ≡ option_map (lines RUN_LINE_LIMIT INPUT_LIMIT) left)
    → Answers document_of (kept_left r (Some bytes)) result → IsAnswer result (document_in RUN_LINE_LIMIT INPUT_LIMIT bytes)
said r bytes result new h = rw new at h

is_verdict_text : (run : RunText) (d : Document) (verdict : AuditVerdict) → d ≡ Accepted run → IsVerdict run verdict → IsDocumentText d (verdict_line verdict) (is_unexplained verdict)
is_verdict_text run d verdict e v = rw e (record { verdict = verdict; is_verdict = v; text_is = refl; refusal = refl })

is_refused_text : (d : Document) (line : ℕ) (reason : Reason) → d ≡ Refused line reason → IsDocumentText d (refused_document_line line reason) true
is_refused_text d line reason e = rw e (refl, refl)

pub verdict_written : (r : Reading) (left before now : Option (List ℕ)) (run : RunText) (verdict : AuditVerdict) (refused : Bool) → ((left : Option (List ℕ)) → lines_left r left ≡ option_map (lines RUN_LINE_LIMIT INPUT_LIMIT) left)
    → Answers document_of (kept_left r left) (Ok run) → IsVerdict run verdict → refused ≡ is_unexplained verdict → now ≡ append_known before (verdict_line verdict) → WritesAudit left before now (Ok refused)
verdict_written r None before now run verdict refused new h v b w = tt
verdict_written r (Some bytes) before now run verdict refused new h v b w =
    rw b (record { text = verdict_line verdict; is_text = is_verdict_text run _ verdict (said r bytes (Ok run) new h) v; taken = w })

pub verdict_prefix : (r : Reading) (left before now : Option (List ℕ)) (run : RunText) (verdict : AuditVerdict) (f : SessionFault) → ((left : Option (List ℕ)) → lines_left r left ≡ option_map (lines RUN_LINE_LIMIT INPUT_LIMIT) left)
    → Answers document_of (kept_left r left) (Ok run) → IsVerdict run verdict → IsPrefix before now (verdict_line verdict) → WritesAudit left before now (Err f)
verdict_prefix r None before now run verdict f new h v w = tt
verdict_prefix r (Some bytes) before now run verdict f new h v w =
    record { text = verdict_line verdict; refused = is_unexplained verdict; is_text = is_verdict_text run _ verdict (said r bytes (Ok run) new h) v; prefix = w }

pub refused_written : (r : Reading) (left before now : Option (List ℕ)) (line : ℕ) (reason : Reason) → ((left : Option (List ℕ)) → lines_left r left ≡ option_map (lines RUN_LINE_LIMIT INPUT_LIMIT) left)
    → Answers document_of (kept_left r left) (Err (fault.Refused line reason)) → now ≡ append_known before (refused_document_line line reason) → WritesAudit left before now (Ok true)
refused_written r None before now line reason new h w = tt
refused_written r (Some bytes) before now line reason new h w =
    record { text = refused_document_line line reason; is_text = is_refused_text _ line reason (said r bytes (Err (fault.Refused line reason)) new h); taken = w }

pub refused_prefix : (r : Reading) (left before now : Option (List ℕ)) (line : ℕ) (reason : Reason) (f : SessionFault) → ((left : Option (List ℕ)) → lines_left r left ≡ option_map (lines RUN_LINE_LIMIT INPUT_LIMIT) left)
    → Answers document_of (kept_left r left) (Err (fault.Refused line reason)) → IsPrefix before now (refused_document_line line reason) → WritesAudit left before now (Err f)
refused_prefix r None before now line reason f new h w = tt
refused_prefix r (Some bytes) before now line reason f new h w =
    record { text = refused_document_line line reason; refused = true; is_text = is_refused_text _ line reason (said r bytes (Err (fault.Refused line reason)) new h); prefix = w }
