-- The text of `check` for a certificate.
use Rattle.std.specs.Prelude.{ℕ, ◌≡◌, Bool, true, false, List, [], ◌∷◌, length, decimal, codes}
use Rattle.kc_cert.specs.declared.certificate.Certificate.{Certificate}
use Rattle.kc_cert.specs.declared.verdict.Verdict.{Verdict}
use Rattle.kc_cert.specs.declared.verdict.Verdict.TheVariants.{Certified, Upper, Lower}
use Rattle.kc_cert.specs.Documents.{Document, Accepted, Refused}
use Rattle.kc_cert.specs.Laws.{document_in}
use Rattle.kc_cert.specs.Verdicts.{IsVerdict}
use Rattle.kc_text.specs.Printing.{printed_line}
use Rattle.kcore.specs.declared.limits.TheConstants.{LINE_LIMIT, INPUT_LIMIT}
use Rattle.kcore.specs.DocumentLines.{refused_document_line}

-- the line of a verdict
abbrev pub verdict_line : Certificate → Verdict → List ℕ
verdict_line cert Certified = printed_line (codes "certified" ∷ codes "vertices" ∷ decimal cert.graph.vertices ∷ codes "edges" ∷ decimal (length cert.graph.edges) ∷ [])
verdict_line cert (Upper v) = printed_line (codes "upper" ∷ decimal v ∷ [])
verdict_line cert (Lower v) = printed_line (codes "lower" ∷ decimal v ∷ [])

-- the levels break an invariant
abbrev pub is_breach : Verdict → Bool
is_breach Certified = false
is_breach (Upper v) = true
is_breach (Lower v) = true

-- the line for a certificate whose levels have this verdict
pub record IsVerdictText (cert : Certificate) (text : List ℕ) (refused : Bool) : Type 0 where
  pub verdict : Verdict
  pub is_verdict : IsVerdict cert verdict
  pub text_is : text ≡ verdict_line cert verdict
  pub refusal : refused ≡ is_breach verdict

-- the line for this content of bytes
--
-- The bytes are refused if they are no certificate, or if their verdict is another than `Certified`.
abbrev pub IsDocumentText : Document → List ℕ → Bool → Type 0
IsDocumentText (Accepted cert) text refused = IsVerdictText cert text refused
IsDocumentText (Refused line reason) text refused = (text ≡ refused_document_line line reason) × (refused ≡ true)

abbrev pub IsCheckText : List ℕ → List ℕ → Bool → Type 0
IsCheckText bytes text refused = IsDocumentText (document_in LINE_LIMIT INPUT_LIMIT bytes) text refused
