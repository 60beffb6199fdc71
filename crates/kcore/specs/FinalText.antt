-- The text of `final` for an input.
use Rattle.std.specs.Prelude.{ℕ, ◌≡◌, Bool, List}
use Rattle.kc_batch.specs.BatchInputs.{BatchInput}
use Rattle.kc_cert.specs.declared.certificate.Certificate.{Certificate}
use Rattle.kc_cert.specs.Texts.{certificate_text}
use Rattle.kc_engine.specs.States.{State}
use Rattle.kcore.specs.InputTexts.{IsTextOf}
use Rattle.kcore.specs.Documents.{EndsInDocument}

-- the certificate of a state: its graph and its levels, with its profile
abbrev pub certificate_of : State → Certificate
certificate_of s = record { profile = s.profile; graph = s.graph; levels = s.levels }

abbrev pub IsFinal : State → List ℕ → Type 0
IsFinal s text = text ≡ certificate_text (certificate_of s)

-- the text of an input, and whether the input, or a part of it, is refused
--
-- It has a note of each refused batch, and then the certificate of the graph and the levels after the last batch.
abbrev pub IsFinalText : BatchInput → List ℕ → Bool → Type 0
IsFinalText = IsTextOf (EndsInDocument IsFinal)
