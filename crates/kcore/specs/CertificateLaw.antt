-- A text of `final` is a certificate that `check` certifies.
use Rattle.std.specs.Prelude.{ℕ, ◌≡◌, ◌≤◌, Bool, false, List, length}
use Rattle.kc_batch.specs.BatchInputs.{BatchInput, WithBatches, HeaderRefused}
use Rattle.kc_batch.specs.HeaderShape.{HeaderShape}
use Rattle.kc_cert.specs.declared.verdict.Verdict.TheVariants.{Certified}
use Rattle.kc_cert.specs.Documents.{Accepted}
use Rattle.kc_cert.specs.Laws.{document_in}
use Rattle.kc_session.specs.States.{Step, start, last_state}
use Rattle.kcore.specs.declared.limits.TheConstants.{LINE_LIMIT, INPUT_LIMIT}
use Rattle.kcore.specs.CheckText.{verdict_line, IsCheckText}
use Rattle.kcore.specs.Documents.{EndsInDocument}
use Rattle.kcore.specs.FinalText.{certificate_of, IsFinal}
use Rattle.kcore.specs.Inputs.{input_said}

-- the text is read as the certificate of the state after these steps
--
-- The text of `check` for it is `certified`.
pub record IsCertified (header : HeaderShape) (steps : List Step) (text : List ℕ) : Type 0 where
  pub read : document_in LINE_LIMIT INPUT_LIMIT text ≡ Accepted (certificate_of (last_state (start header.profile header.n) steps))
  pub checked : (line : List ℕ) (refused : Bool) → IsCheckText text line refused
      → (line ≡ verdict_line (certificate_of (last_state (start header.profile header.n) steps)) Certified) × (refused ≡ false)

abbrev pub CertifiesAfter : BatchInput → Type 0
CertifiesAfter (HeaderRefused line) = Unit {0}
CertifiesAfter (WithBatches header batches) =
    (text : List ℕ) (refused : Bool) → length text ≤ INPUT_LIMIT → (e : EndsInDocument IsFinal header batches text refused) → IsCertified header e.steps text

-- the text of `final` of each input with a header is certified if it is within the limit of an input
abbrev pub FinalIsCertified : Type 0
FinalIsCertified = (bytes : List ℕ) → CertifiesAfter (input_said bytes)
