-- A text of `final` is certified.
use Rattle.std.proofs.Common.{ℕ, ◌+◌, ◌≡◌, ◌≤◌, Bool, false, List, ◌++◌, length, ap, ◌∙◌, arith, length-append}
use Rattle.std.proofs.lemmas.Bool.Decides.{nat_tests}
use Rattle.kc_text.specs.Lines.{lines}
use Rattle.kc_text.specs.Printing.{printed}
use Rattle.kc_text.specs.Kept.{kept}
use Rattle.kc_graph.specs.declared.limits.TheConstants.{MAX_VERTICES, MAX_ITEMS, MAX_EDGES}
use Rattle.kc_batch.specs.Headers.{HeaderText, Accepted, Refused, header_of}
use Rattle.kc_batch.specs.BatchInputs.{behind_header}
use Rattle.kc_batch.specs.Tokens.{tokens}
use Rattle.kc_cert.specs.declared.verdict.Verdict.TheVariants.{Certified}
use Rattle.kc_cert.specs.Documents as document
use Rattle.kc_cert.specs.Laws.{document_in}
use Rattle.kc_cert.specs.Texts.{IsCertificate, certificate_text}
use Rattle.kc_cert.proofs.lemmas.Certificates.{certificate_is_read_back, verdict_is_certified}
use Rattle.kc_engine.specs.States.{State, IsSound}
use Rattle.kc_session.specs.States.{start, last_state}
use Rattle.kcore.specs.declared.limits.TheConstants.{LINE_LIMIT, INPUT_LIMIT}
use Rattle.kcore.specs.CertificateLaw.{CertifiesAfter, FinalIsCertified}
use Rattle.kcore.specs.CheckText.{verdict_line, IsDocumentText}
use Rattle.kcore.specs.FinalText.{certificate_of}
use Rattle.kcore.proofs.DocumentTexts.{sound_after}
use Rattle.kcore.proofs.HeaderRanges.{HasRanges, header_keeps}
use Rattle.kcore.proofs.LineNumbers.{kept_are_numbered}
use Rattle.kcore.proofs.NoteLines.{are_notes}

-- the certificate of a sound state
sound_certificate : (s : State) → IsSound MAX_EDGES s → 1 ≤ s.graph.vertices → s.graph.vertices ≤ MAX_VERTICES → IsCertificate (certificate_of s)
sound_certificate s z some small = record { some = some; small = small; graph = z.graph; few = z.few_edges; sized = z.both.sized; capped = z.capped }

-- the line of a certificate in which both invariants hold
certified_line : (s : State) (d : document.Document) (line : List ℕ) (refused : Bool) → IsSound MAX_EDGES s → d ≡ document.Accepted (certificate_of s) → IsDocumentText d line refused → (line ≡ verdict_line (certificate_of s) Certified) × (refused ≡ false)
certified_line s d line refused z e t = grind (arith, nat_tests, verdict_is_certified, z.both)

certifies : (text : HeaderText) → HasRanges text → CertifiesAfter (behind_header MAX_ITEMS text)
certifies (Refused line) h = tt
certifies (Accepted header rest) h = λ text refused long e.
    let s = last_state (start header.profile header.n) e.steps in
    let z = sound_after header (tokens rest) e.steps e.are_steps in
    let notes = are_notes 1 (start header.profile header.n) _ e.steps in
    let whole : text ≡ printed notes.lines ++ certificate_text (certificate_of s) = e.text_is ∙ ap (λ (t : List ℕ). t ++ e.document) notes.text_is ∙ ap (λ (t : List ℕ). printed notes.lines ++ t) e.is_document in
    let fits : length (printed notes.lines) + length (certificate_text (certificate_of s)) ≤ INPUT_LIMIT = omega (arith, long, ap length whole, length-append (printed notes.lines) (certificate_text (certificate_of s))) in
    let cert = sound_certificate s z.0 (rw z.1 h.0.some) (rw z.1 h.0.small) in
    let read : document_in LINE_LIMIT INPUT_LIMIT text ≡ document.Accepted (certificate_of s) =
    ap (λ (t : List ℕ). document_in LINE_LIMIT INPUT_LIMIT t) whole ∙ certificate_is_read_back (certificate_of s) LINE_LIMIT INPUT_LIMIT notes.lines cert (omega arith) notes.print notes.skip fits in
    record { read = read; checked = λ line x t. certified_line s _ line x z.0 read t }

pub final_is_certified : FinalIsCertified
final_is_certified bytes = certifies (header_of (kept (lines LINE_LIMIT INPUT_LIMIT bytes))) (header_keeps (kept (lines LINE_LIMIT INPUT_LIMIT bytes)) (kept_are_numbered bytes))
