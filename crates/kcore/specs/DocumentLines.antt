-- The line for a document that is refused.
use Rattle.std.specs.Prelude.{ℕ, List, [], ◌∷◌, decimal, codes}
use Rattle.kc_text.specs.declared.reason.Reason.{Reason}
use Rattle.kc_text.specs.Printing.{printed_line}
use Rattle.kc_text.specs.Reasons.{reason_word}

-- the line of a document that is refused at this line
abbrev pub refused_document_line : ℕ → Reason → List ℕ
refused_document_line line reason = printed_line (codes "refused" ∷ codes "line" ∷ decimal line ∷ reason_word reason ∷ [])
