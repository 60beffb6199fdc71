-- The result of a part of the reading, if the lines are known.
use Rattle.std.specs.Prelude.{ℕ, ◌≡◌, List, [], Option, Result, Ok, Err, IfSome}
use Rattle.std.specs.Option.{option_map}
use Rattle.kc_graph.specs.Shape.{GraphShape}
use Rattle.kc_levels.specs.declared.profile.Profile.{Profile}
use Rattle.kc_text.specs.declared.document_fault.DocumentFault.{DocumentFault}
use Rattle.kc_text.specs.declared.document_fault.DocumentFault.TheVariants as fault
use Rattle.kc_text.specs.declared.reason.Reason.{Reason}
use Rattle.kc_cert.specs.declared.certificate.Certificate.{Certificate}
use Rattle.kc_cert.specs.declared.token.Token.{Token}
use Rattle.kc_cert.specs.Documents.{Stage, AtBody, empty_certificate, read_from}
use Rattle.kc_cert.specs.Reads.{IsAnswer}

-- the result of the lines from a stage on, if the lines are known
abbrev pub Answers : Stage → Option (List Token) → Result Certificate DocumentFault → Type 0
Answers stage told result = IfSome told (λ ts. IsAnswer result (read_from stage ts))

-- the first edge is due
abbrev pub at_edges : Profile → ℕ → ℕ → Stage
at_edges profile n edges = AtBody (empty_certificate profile n) edges 0 0 n

-- the first level is due, after the edges of this graph
abbrev pub at_levels : Profile → GraphShape → Stage
at_levels profile graph = AtBody (record { profile = profile; graph = graph; levels = [] }) 0 0 0 graph.vertices

-- `end` is due, after these levels
abbrev pub at_close : Profile → GraphShape → List ℕ → Stage
at_close profile graph levels = AtBody (record { profile = profile; graph = graph; levels = levels }) 0 0 0 0

-- the value of the lines from a stage up to a later one, which depends on the value, or a fault
--
-- Without a fault the lines before say at the first stage what the lines after it say at the later one.
abbrev pub Reaches : {T : Type 0} → Stage → (T → Stage) → Option (List Token) → Option (List Token) → Result T DocumentFault → Type 0
Reaches stage next before after (Ok x) = option_map (read_from stage) before ≡ option_map (read_from (next x)) after
Reaches stage next before after (Err f) = Answers stage before (Err f)

-- the value of a line with this number if it fits, or else the refusal of the line with its reason
abbrev pub Fits : {T : Type 0} → ℕ → Result T Reason → Result T DocumentFault → Type 0
Fits number found (Ok x) = found ≡ Ok x
Fits number found (Err (fault.Refused line reason)) = (line ≡ number) × (found ≡ Err reason)
Fits number found (Err fault.ReadFault) = ⊥
Fits number found (Err (fault.Memory _)) = ⊥
