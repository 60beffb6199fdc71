-- What a result says of the lines that were read, and when a fault may be returned.
use Rattle.std.specs.Prelude.{◌≡◌, List, Option, Result, Ok, Err, IfSome}
use Rattle.kc_text.specs.declared.line.Line.{Line}
use Rattle.kc_text.specs.declared.document_fault.DocumentFault.{DocumentFault}
use Rattle.kc_text.specs.declared.document_fault.DocumentFault.TheVariants as fault
use Rattle.kc_audit.specs.declared.run_text.RunText.{RunText}
use Rattle.kc_audit.specs.Documents.{Document, Accepted, Refused}

-- Ok has the run of the document, and Refused its line and reason; other faults say nothing of the document
abbrev pub IsAnswer : Result RunText DocumentFault → Document → Type 0
IsAnswer (Ok run) document = document ≡ Accepted run
IsAnswer (Err (fault.Refused line reason)) document = document ≡ Refused line reason
IsAnswer (Err fault.ReadFault) document = Unit {0}
IsAnswer (Err (fault.Memory _)) document = Unit {0}

-- the same for the document that a rule makes of lines, if the lines are known
abbrev pub Answers : (List Line → Document) → Option (List Line) → Result RunText DocumentFault → Type 0
Answers rule lines result = IfSome lines (λ ls. IsAnswer result (rule ls))
