-- The text of `audit` for a run text.
use Rattle.std.specs.Prelude.{ℕ, ◌≡◌, Bool, true, false, List, [], ◌∷◌, decimal, codes}
use Rattle.kc_audit.specs.declared.run_text.RunText.{RunText}
use Rattle.kc_audit.specs.declared.verdict.AuditVerdict.{AuditVerdict}
use Rattle.kc_audit.specs.declared.verdict.AuditVerdict.TheVariants.{Explained, Unexplained}
use Rattle.kc_audit.specs.Documents.{Document, Accepted, Refused, document_in}
use Rattle.kc_audit.specs.Verdicts.{IsVerdict}
use Rattle.kc_text.specs.Printing.{printed_line}
use Rattle.kcore.specs.declared.limits.TheConstants.{RUN_LINE_LIMIT, INPUT_LIMIT}
use Rattle.kcore.specs.DocumentLines.{refused_document_line}

-- the line of a verdict
abbrev pub verdict_line : AuditVerdict → List ℕ
verdict_line Explained = printed_line (codes "explained" ∷ [])
verdict_line (Unexplained reader ask) = printed_line (codes "unexplained" ∷ codes "reader" ∷ decimal reader ∷ codes "ask" ∷ decimal ask ∷ [])

-- the replies of some reader aren't explained
abbrev pub is_unexplained : AuditVerdict → Bool
is_unexplained Explained = false
is_unexplained (Unexplained reader ask) = true

-- the line for a run with this verdict
pub record IsVerdictText (run : RunText) (text : List ℕ) (refused : Bool) : Type 0 where
  pub verdict : AuditVerdict
  pub is_verdict : IsVerdict run verdict
  pub text_is : text ≡ verdict_line verdict
  pub refusal : refused ≡ is_unexplained verdict

-- the line for this content of bytes
--
-- The bytes are refused if they are no run text, or if their verdict is another than `Explained`.
abbrev pub IsDocumentText : Document → List ℕ → Bool → Type 0
IsDocumentText (Accepted run) text refused = IsVerdictText run text refused
IsDocumentText (Refused line reason) text refused = (text ≡ refused_document_line line reason) × (refused ≡ true)

-- the line for these bytes; a line of them may be as long as the whole input
abbrev pub IsAuditText : List ℕ → List ℕ → Bool → Type 0
IsAuditText bytes text refused = IsDocumentText (document_in RUN_LINE_LIMIT INPUT_LIMIT bytes) text refused
