-- The text of `check` for the content that was read.
use Rattle.std.proofs.Common.{ℕ, ◌≡◌, Bool, true, List, refl}
use Rattle.std.specs.Prelude.{Option, Some, None, Result, Ok, Err, IfSome}
use Rattle.std.specs.Option.{option_map}
use Rattle.std.specs.Io.KnownBytes.{append_known}
use Rattle.kc_text.specs.declared.document_fault.DocumentFault.{DocumentFault}
use Rattle.kc_text.specs.declared.document_fault.DocumentFault.TheVariants as fault
use Rattle.kc_text.specs.declared.reason.Reason.{Reason}
use Rattle.kc_text.specs.Lines.{lines}
use Rattle.kc_text.specs.Reading.{Reading, lines_left}
use Rattle.kc_text.specs.Writing.{IsPrefix}
use Rattle.kc_text.proofs.lemmas.Writing.{prefix_none}
use Rattle.kc_cert.specs.declared.certificate.Certificate.{Certificate}
use Rattle.kc_cert.specs.declared.verdict.Verdict.{Verdict}
use Rattle.kc_cert.specs.Documents.{Document, Accepted, Refused, document_of}
use Rattle.kc_cert.specs.Laws.{document_in}
use Rattle.kc_cert.specs.Reads.{IsAnswer}
use Rattle.kc_cert.specs.Tokens.{tokens_left}
use Rattle.kc_cert.specs.Verdicts.{IsVerdict}
use Rattle.kc_cert.proofs.lemmas.Certificates.{has_verdict}
use Rattle.kc_session.specs.declared.fault.SessionFault.{SessionFault}
use Rattle.kcore.specs.declared.limits.TheConstants.{LINE_LIMIT, INPUT_LIMIT}
use Rattle.kcore.specs.CheckText.{verdict_line, is_breach, IsDocumentText}
use Rattle.kcore.specs.private.CheckText.{WritesCheck}
use Rattle.kcore.specs.DocumentLines.{refused_document_line}

-- each document has a text
some_text : (d : Document) → (text : List ℕ) × ((refused : Bool) × IsDocumentText d text refused)
some_text (Accepted cert) =
    let v = has_verdict cert in
    (verdict_line cert v.0, (is_breach v.0, record { verdict = v.0; is_verdict = v.1; text_is = refl; refusal = refl }))
some_text (Refused line reason) = (refused_document_line line reason, (true, (refl, refl)))

-- nothing was written
pub nothing_written : (left before : Option (List ℕ)) (f : SessionFault) → WritesCheck left before before (Err f)
nothing_written None before f = tt
nothing_written (Some bytes) before f =
    let t = some_text (document_in LINE_LIMIT INPUT_LIMIT bytes) in
    record { text = t.0; refused = t.1.0; is_text = t.1.1; prefix = prefix_none before before t.0 refl }

-- the answer to a reader at the first line is the content of the bytes
said : (r : Reading) (bytes : List ℕ) (result : Result Certificate DocumentFault) → ((left : Option (List ℕ)) → lines_left r left ≡ option_map (lines LINE_LIMIT INPUT_LIMIT) left)
    → IfSome (tokens_left r (Some bytes)) (λ ts. IsAnswer result (document_of ts)) → IsAnswer result (document_in LINE_LIMIT INPUT_LIMIT bytes)
said r bytes result new h = rw new at h

is_verdict_text : (cert : Certificate) (d : Document) (verdict : Verdict) → d ≡ Accepted cert → IsVerdict cert verdict → IsDocumentText d (verdict_line cert verdict) (is_breach verdict)
is_verdict_text cert d verdict e v = rw e (record { verdict = verdict; is_verdict = v; text_is = refl; refusal = refl })

is_refused_text : (d : Document) (line : ℕ) (reason : Reason) → d ≡ Refused line reason → IsDocumentText d (refused_document_line line reason) true
is_refused_text d line reason e = rw e (refl, refl)

pub verdict_written : (r : Reading) (left before now : Option (List ℕ)) (cert : Certificate) (verdict : Verdict) (breach : Bool) → ((left : Option (List ℕ)) → lines_left r left ≡ option_map (lines LINE_LIMIT INPUT_LIMIT) left)
    → IfSome (tokens_left r left) (λ ts. IsAnswer (Ok cert) (document_of ts)) → IsVerdict cert verdict → breach ≡ is_breach verdict → now ≡ append_known before (verdict_line cert verdict) → WritesCheck left before now (Ok breach)
verdict_written r None before now cert verdict breach new h v b w = tt
verdict_written r (Some bytes) before now cert verdict breach new h v b w =
    rw b (record { text = verdict_line cert verdict; is_text = is_verdict_text cert _ verdict (said r bytes (Ok cert) new h) v; taken = w })

pub verdict_prefix : (r : Reading) (left before now : Option (List ℕ)) (cert : Certificate) (verdict : Verdict) (f : SessionFault) → ((left : Option (List ℕ)) → lines_left r left ≡ option_map (lines LINE_LIMIT INPUT_LIMIT) left)
    → IfSome (tokens_left r left) (λ ts. IsAnswer (Ok cert) (document_of ts)) → IsVerdict cert verdict → IsPrefix before now (verdict_line cert verdict) → WritesCheck left before now (Err f)
verdict_prefix r None before now cert verdict f new h v w = tt
verdict_prefix r (Some bytes) before now cert verdict f new h v w =
    record { text = verdict_line cert verdict; refused = is_breach verdict; is_text = is_verdict_text cert _ verdict (said r bytes (Ok cert) new h) v; prefix = w }

pub refused_written : (r : Reading) (left before now : Option (List ℕ)) (line : ℕ) (reason : Reason) → ((left : Option (List ℕ)) → lines_left r left ≡ option_map (lines LINE_LIMIT INPUT_LIMIT) left)
    → IfSome (tokens_left r left) (λ ts. IsAnswer (Err (fault.Refused line reason)) (document_of ts)) → now ≡ append_known before (refused_document_line line reason) → WritesCheck left before now (Ok true)
refused_written r None before now line reason new h w = tt
refused_written r (Some bytes) before now line reason new h w =
    record { text = refused_document_line line reason; is_text = is_refused_text _ line reason (said r bytes (Err (fault.Refused line reason)) new h); taken = w }

pub refused_prefix : (r : Reading) (left before now : Option (List ℕ)) (line : ℕ) (reason : Reason) (f : SessionFault) → ((left : Option (List ℕ)) → lines_left r left ≡ option_map (lines LINE_LIMIT INPUT_LIMIT) left)
    → IfSome (tokens_left r left) (λ ts. IsAnswer (Err (fault.Refused line reason)) (document_of ts)) → IsPrefix before now (refused_document_line line reason) → WritesCheck left before now (Err f)
refused_prefix r None before now line reason f new h w = tt
refused_prefix r (Some bytes) before now line reason f new h w =
    record { text = refused_document_line line reason; refused = true; is_text = is_refused_text _ line reason (said r bytes (Err (fault.Refused line reason)) new h); prefix = w }
