-- What an answer of `read_certificate` says of the lines.
use Rattle.std.specs.Prelude.{◌≡◌, Result, Ok, Err}
use Rattle.kc_text.specs.declared.document_fault.DocumentFault.{DocumentFault}
use Rattle.kc_text.specs.declared.document_fault.DocumentFault.TheVariants as fault
use Rattle.kc_cert.specs.declared.certificate.Certificate.{Certificate}
use Rattle.kc_cert.specs.Documents.{Document, Accepted, Refused}

-- what lines are, by an answer that is no fault of the source or of the memory
abbrev pub IsAnswer : Result Certificate DocumentFault → Document → Type 0
IsAnswer (Ok cert) said = said ≡ Accepted cert
IsAnswer (Err (fault.Refused line reason)) said = said ≡ Refused line reason
IsAnswer (Err fault.ReadFault) said = Unit {0}
IsAnswer (Err (fault.Memory _)) said = Unit {0}
