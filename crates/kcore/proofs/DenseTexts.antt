-- The text of `dense`, and the facts that hold of its members.
use Rattle.std.proofs.Common.{ℕ, ◌≡◌, ◌≤◌, inl, inr, List, [], ◌++◌, length, refl, sym, ap, ◌∙◌, subst, arith}
use Rattle.std.specs.Prelude.{Option, Result, Err}
use Rattle.std.specs.List.{flat_map}
use Rattle.std.proofs.lemmas.Bool.{cases_lt}
use Rattle.std.proofs.lemmas.Bool.Decides.{nat_tests}
use Rattle.kc_text.specs.declared.buf.SendFault.{SendFault}
use Rattle.kc_text.specs.Lines.{lines}
use Rattle.kc_text.specs.Writing.{Appends}
use Rattle.kc_text.specs.Kept.{kept}
use Rattle.kc_text.proofs.lemmas.Writing.{prefix_none}
use Rattle.kc_graph.specs.declared.limits.TheConstants.{MAX_EDGES, MAX_ITEMS}
use Rattle.kc_graph.specs.Shape.{GraphShape, IsGraph}
use Rattle.kc_dense.specs.Sets.{members_of, edges_within}
use Rattle.kc_dense.specs.Dense.{IsDensePart, IsHalfAsDenseAsAny}
use Rattle.kc_dense.proofs.lemmas.DenseParts.{dense_part_is_half_as_dense, each_has_dense_part, dense_part_is_one}
use Rattle.kc_report.specs.Lines.{end_line}
use Rattle.kc_batch.specs.Headers.{HeaderText, Accepted, Refused, header_of}
use Rattle.kc_batch.specs.Tokens.{tokens}
use Rattle.kc_batch.specs.BatchInputs.{behind_header}
use Rattle.kc_engine.specs.States.{State, IsSound}
use Rattle.kcore.specs.declared.limits.TheConstants.{LINE_LIMIT, INPUT_LIMIT}
use Rattle.kcore.specs.Inputs.{input_said}
use Rattle.kcore.specs.private.Documents.{HasDocuments, WritesDocument}
use Rattle.kcore.specs.DenseLines.{dense_head_text, size_line, member_line}
use Rattle.kcore.specs.DenseText.{AreMembers, dense_text, IsDense, IsDenseText}
use Rattle.kcore.specs.Laws.{HasOneText, HasHalfDensity}
use Rattle.kcore.proofs.DocumentTexts.{has_one_text, sound_after}

some_members : (g : GraphShape) → (members : List ℕ) × AreMembers g members
some_members g = elim (cases_lt 0 g.vertices) [
  | inl some ↦ let d = each_has_dense_part g (omega arith) in (d.0, record { some = λ h. d.1; none = λ e. absurd (omega arith) })
  | inr none ↦ ([], record { some = λ h. absurd (omega arith); none = λ e. refl })
]

one_members : (g : GraphShape) (a b : List ℕ) → AreMembers g a → AreMembers g b → a ≡ b
one_members g a b p q = grind (arith, nat_tests, dense_part_is_one, p.some, q.some, p.none, q.none)

pub has_documents : HasDocuments IsDense
has_documents s sound =
    let d = some_members s.graph in
    (dense_text s.graph d.0, record { members = d.0; are_members = d.1; text_is = refl })

-- the part after the head, with the number of edges
abbrev after_head : List ℕ → ℕ → List ℕ
after_head members edges = size_line (length members) edges ++ (flat_map member_line members ++ end_line)

-- the dense text of a state with n vertices was written, or a prefix of it
pub dense_written : {T : Type 0} → (s : State) (members : List ℕ) (n edges : ℕ) (before now : Option (List ℕ)) (result : Result T SendFault) → n ≡ s.graph.vertices → 1 ≤ n → IsDensePart s.graph members → edges ≡ edges_within s.graph (members_of members)
    → Appends before now (dense_head_text n ++ (size_line (length members) edges ++ (flat_map member_line members ++ end_line))) result → WritesDocument {T = T} IsDense s before now result
dense_written s members n edges before now result e some part within w = record {
  document = dense_text s.graph members;
  is_document = record { members = members; are_members = record { some = λ h. part; none = λ f. absurd (omega (arith, e, some, f)) }; text_is = refl };
  appends = subst (λ (m : ℕ). Appends before now (dense_head_text m ++ after_head members (edges_within s.graph (members_of members))) result) e (subst (λ (k : ℕ). Appends before now (dense_head_text n ++ after_head members k) result) within w);
}

-- nothing of the text was written
pub nothing_of_it : {T : Type 0} → (s : State) (before : Option (List ℕ)) (fault : SendFault) → IsSound MAX_EDGES s → WritesDocument {T = T} IsDense s before before (Err fault)
nothing_of_it s before fault sound = let d = has_documents s sound in record { document = d.0; is_document = d.1; appends = prefix_none before before d.0 refl }

one_document : (s : State) (a b : List ℕ) → IsDense s a → IsDense s b → a ≡ b
one_document s a b p q = p.text_is ∙ ap (λ (members : List ℕ). dense_text s.graph members) (one_members s.graph p.members q.members p.are_members q.are_members) ∙ sym q.text_is

pub input_has_one_dense_text : HasOneText IsDenseText
input_has_one_dense_text = has_one_text IsDense has_documents one_document

-- no set of vertices is more than twice as dense as the members
half_density : (g : GraphShape) (members : List ℕ) → IsGraph g → AreMembers g members → IsHalfAsDenseAsAny g members
half_density g members graph are = grind (arith, nat_tests, dense_part_is_half_as_dense, are.some, are.none)

half_behind : (text : HeaderText) → HasHalfDensity (behind_header MAX_ITEMS text)
half_behind (Refused line) = tt
half_behind (Accepted header rest) = λ ts a members are.
    half_density _ members (sound_after header (tokens rest) ts a).0.graph are

pub has_half_density : (bytes : List ℕ) → HasHalfDensity (input_said bytes)
has_half_density bytes = half_behind (header_of (kept (lines LINE_LIMIT INPUT_LIMIT bytes)))
