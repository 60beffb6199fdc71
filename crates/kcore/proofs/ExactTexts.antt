-- The text of `exact`, and the facts that hold of each command.
use Rattle.std.proofs.Common.{ℕ, ◌≡◌, List, ◌++◌, refl, sym, ap, ◌∙◌, subst, arith}
use Rattle.std.specs.Prelude.{Option, Some, None, Result, Err}
use Rattle.std.proofs.lemmas.Bool.Decides.{nat_tests}
use Rattle.kc_text.specs.declared.buf.SendFault.{SendFault}
use Rattle.kc_text.specs.Lines.{lines}
use Rattle.kc_text.specs.Writing.{Appends}
use Rattle.kc_text.specs.Kept.{kept}
use Rattle.kc_text.proofs.lemmas.Writing.{prefix_none}
use Rattle.kc_graph.specs.declared.limits.TheConstants.{MAX_EDGES, MAX_ITEMS}
use Rattle.kc_report.specs.Lines.{exact_head_text, end_line}
use Rattle.kc_report.specs.VertexLines.{vertex_lines}
use Rattle.kc_batch.specs.Headers.{HeaderText, Accepted, Refused, header_of}
use Rattle.kc_batch.specs.Batches.{batches}
use Rattle.kc_batch.specs.BatchInputs.{behind_header}
use Rattle.kc_engine.specs.States.{State, IsSound}
use Rattle.kc_session.proofs.lemmas.Runs.{profile_last}
use Rattle.kcore.specs.declared.limits.TheConstants.{LINE_LIMIT, INPUT_LIMIT}
use Rattle.kcore.specs.declared.command.Command.{Command}
use Rattle.kcore.specs.declared.command.Command.TheVariants.{Run, Final, Orient, Exact, Check, Audit, Dense, Gen}
use Rattle.kcore.specs.Corenesses.{AreCorenesses}
use Rattle.kcore.specs.private.Documents.{HasDocuments, WritesDocument}
use Rattle.kcore.specs.ExactText.{exact_vertex_text, exact_text, IsExact, IsExactText}
use Rattle.kcore.specs.Commands.{Holds}
use Rattle.kcore.specs.Laws.{HasOneText, FitsExactly}
use Rattle.kcore.proofs.SomeCorenesses.{some_corenesses, one_corenesses}
use Rattle.kcore.proofs.DocumentTexts.{has_one_text, sound_after}
use Rattle.kcore.proofs.DenseTexts.{has_half_density}
use Rattle.kcore.proofs.Holding.{holds_in, each_state_holds}
use Rattle.kcore.proofs.OrientTexts.{orients_sparsely}

pub has_documents : HasDocuments IsExact
has_documents s sound =
    let cs = some_corenesses s.graph sound.graph in
    (exact_text s cs.0, record { corenesses = cs.0; are_corenesses = cs.1; text_is = refl })

-- the exact text of a state with n vertices was written, or a prefix of it
pub exact_written : {T : Type 0} → (s : State) (cs : List ℕ) (n : ℕ) (before now : Option (List ℕ)) (result : Result T SendFault) → n ≡ s.graph.vertices → AreCorenesses s.graph cs
    → Appends before now (exact_head_text n ++ (vertex_lines (exact_vertex_text s cs) n ++ end_line)) result → WritesDocument {T = T} IsExact s before now result
exact_written s cs n before now result e k w = record {
  document = exact_text s cs;
  is_document = record { corenesses = cs; are_corenesses = k; text_is = refl };
  appends = subst (λ (m : ℕ). Appends before now (exact_head_text m ++ (vertex_lines (exact_vertex_text s cs) m ++ end_line)) result) e w;
}

-- nothing of the text was written
pub nothing_of_it : {T : Type 0} → (s : State) (before : Option (List ℕ)) (fault : SendFault) → IsSound MAX_EDGES s → WritesDocument {T = T} IsExact s before before (Err fault)
nothing_of_it s before fault sound = let d = has_documents s sound in record { document = d.0; is_document = d.1; appends = prefix_none before before d.0 refl }

one_document : (s : State) (a b : List ℕ) → IsExact s a → IsExact s b → a ≡ b
one_document s a b p q = p.text_is ∙ ap (λ (cs : List ℕ). exact_text s cs) (one_corenesses s.graph p.corenesses q.corenesses p.are_corenesses q.are_corenesses) ∙ sym q.text_is

pub input_has_one_exact_text : HasOneText IsExactText
input_has_one_exact_text = has_one_text IsExact has_documents one_document

fits_behind : (text : HeaderText) → FitsExactly (behind_header MAX_ITEMS text)
fits_behind (Refused line) = tt
fits_behind (Accepted header rest) = grind (arith, nat_tests, sound_after, profile_last, holds_in, header.profile, header.n)

pub holds : (command : Option Command) (left : Option (List ℕ)) → Holds command left
holds None left = tt
holds (Some command) None = tt
holds (Some (Run workers)) (Some bytes) = tt
holds (Some (Final workers)) (Some bytes) = each_state_holds bytes
holds (Some Check) (Some bytes) = tt
holds (Some Audit) (Some bytes) = tt
holds (Some (Orient workers)) (Some bytes) = (each_state_holds bytes, orients_sparsely bytes)
holds (Some Exact) (Some bytes) = (each_state_holds bytes, fits_behind (header_of (kept (lines LINE_LIMIT INPUT_LIMIT bytes))))
holds (Some Dense) (Some bytes) = has_half_density bytes
holds (Some (Gen seed n batches items workers)) (Some bytes) = tt
