-- The text of `final`.
use Rattle.std.proofs.Common.{ℕ, ◌≡◌, List, refl, sym, ◌∙◌}
use Rattle.std.specs.Prelude.{Option, Result}
use Rattle.kc_text.specs.declared.buf.SendFault.{SendFault}
use Rattle.kc_text.specs.Writing.{Appends}
use Rattle.kc_graph.specs.Shape.{GraphShape}
use Rattle.kc_levels.specs.declared.profile.Profile.{Profile}
use Rattle.kc_cert.specs.Texts.{certificate_text}
use Rattle.kc_engine.specs.States.{State}
use Rattle.kcore.specs.private.Documents.{HasDocuments, WritesDocument}
use Rattle.kcore.specs.FinalText.{certificate_of, IsFinal, IsFinalText}
use Rattle.kcore.specs.Laws.{HasOneText}
use Rattle.kcore.proofs.DocumentTexts.{has_one_text}

pub has_documents : HasDocuments IsFinal
has_documents s sound = (certificate_text (certificate_of s), refl)

-- the certificate of a state was written, or a prefix of it
pub final_written : {T : Type 0} → (s : State) (p : Profile) (g : GraphShape) (x : List ℕ) (before now : Option (List ℕ)) (result : Result T SendFault) → s.profile ≡ p → g ≡ s.graph → x ≡ s.levels
    → Appends before now (certificate_text (record { profile = p; graph = g; levels = x })) result → WritesDocument {T = T} IsFinal s before now result
final_written s p g x before now result pe ge xe w = record {
  document = certificate_text (certificate_of s);
  is_document = refl;
  appends = rw (pe, ← ge, ← xe) w;
}

pub input_has_one_final_text : HasOneText IsFinalText
input_has_one_final_text = has_one_text IsFinal has_documents (λ s a b p q. p ∙ sym q)
