-- The text of `orient`, and the facts that hold of it.
use Rattle.std.proofs.Common.{ℕ, ◌≡◌, ◌≤◌, List, ◌++◌, length, get_or, refl, ◌∙◌, subst, arith}
use Rattle.std.specs.Prelude.{Option, Result, Err}
use Rattle.std.proofs.lemmas.Bool.Decides.{nat_tests}
use Rattle.kc_text.specs.declared.buf.SendFault.{SendFault}
use Rattle.kc_text.specs.Lines.{lines}
use Rattle.kc_text.specs.Writing.{Appends}
use Rattle.kc_text.specs.Kept.{kept}
use Rattle.kc_text.proofs.lemmas.Writing.{prefix_none}
use Rattle.kc_graph.specs.declared.limits.TheConstants.{MAX_EDGES, MAX_ITEMS}
use Rattle.kc_levels.specs.declared.profile.Profile.{Profile}
use Rattle.kc_levels.specs.declared.profile.Profile.TheVariants.{Two}
use Rattle.kc_levels.specs.LevelList.{MeetsUpper}
use Rattle.kc_orient.specs.Shape.{orientation}
use Rattle.kc_orient.specs.Colouring.{IsColouring}
use Rattle.kc_orient.proofs.lemmas.Orientations.{out_neighbours_are_few, outs_at, outs_sized}
use Rattle.kc_orient.proofs.lemmas.Colourings.{colourings_are_one, colouring_is_proper, colours_are_few, colouring_is_one}
use Rattle.kc_report.specs.Lines.{end_line}
use Rattle.kc_report.specs.VertexLines.{vertex_lines}
use Rattle.kc_batch.specs.Headers.{HeaderText, Accepted, Refused, header_of}
use Rattle.kc_batch.specs.Tokens.{tokens}
use Rattle.kc_batch.specs.Batches.{batches}
use Rattle.kc_batch.specs.BatchInputs.{rules_of, behind_header}
use Rattle.kc_engine.specs.States.{State, IsSound}
use Rattle.kc_session.specs.States.{start, last_state}
use Rattle.kc_session.proofs.lemmas.Runs.{profile_last}
use Rattle.kcore.specs.declared.limits.TheConstants.{LINE_LIMIT, INPUT_LIMIT}
use Rattle.kcore.specs.Inputs.{input_said}
use Rattle.kcore.specs.private.Documents.{HasDocuments, WritesDocument}
use Rattle.kcore.specs.OrientLines.{orient_head_text}
use Rattle.kcore.specs.OrientText.{oriented_vertex_text, oriented_text, IsOrientedText, IsOrientText, IsSparse, OrientsSparsely}
use Rattle.kcore.specs.Laws.{HasOneText}
use Rattle.kcore.proofs.DocumentTexts.{has_one_text, sound_after}
use Rattle.kcore.proofs.Holding.{holds_in}

pub has_documents : HasDocuments IsOrientedText
has_documents s sound =
    let c = colouring_is_one.some s.graph s.levels sound.graph in
    (oriented_text (orientation s.graph s.levels) c.0 s.graph.vertices, record { colours = c.0; is_colouring = c.1; text_is = refl })

-- the oriented text of a state with n vertices was written, or a prefix of it
pub oriented_written : {T : Type 0} → (s : State) (cs : List ℕ) (n : ℕ) (before now : Option (List ℕ)) (result : Result T SendFault) → n ≡ s.graph.vertices → IsColouring (orientation s.graph s.levels).outs cs
    → Appends before now (orient_head_text n ++ (vertex_lines (oriented_vertex_text (orientation s.graph s.levels) cs) n ++ end_line)) result → WritesDocument {T = T} IsOrientedText s before now result
oriented_written s cs n before now result e k w = record {
  document = oriented_text (orientation s.graph s.levels) cs s.graph.vertices;
  is_document = record { colours = cs; is_colouring = k; text_is = refl };
  appends = subst (λ (m : ℕ). Appends before now (oriented_text (orientation s.graph s.levels) cs m) result) e w;
}

-- nothing of the text was written
pub nothing_of_it : {T : Type 0} → (s : State) (before : Option (List ℕ)) (fault : SendFault) → IsSound MAX_EDGES s → WritesDocument {T = T} IsOrientedText s before before (Err fault)
nothing_of_it s before fault sound = let d = has_documents s sound in record { document = d.0; is_document = d.1; appends = prefix_none before before d.0 refl }

one_document : (s : State) (a b : List ℕ) → IsOrientedText s a → IsOrientedText s b → a ≡ b
one_document s a b p q = grind (arith, nat_tests, colourings_are_one, p.text_is, p.colours, q.colours, p.is_colouring, q.is_colouring, q.text_is)

pub input_has_one_orient_text : HasOneText IsOrientText
input_has_one_orient_text = has_one_text IsOrientedText has_documents one_document

sparse_in : (p : Profile) (s : State) → s.profile ≡ p → IsSound MAX_EDGES s → IsSparse p s
sparse_in p s same sound =
    let i = holds_in p s same sound in
    record {
      profile = same;
      few = λ v c k. omega (arith, out_neighbours_are_few.near s.profile s.graph s.levels v (sound.both.upper v (k.core.vertices v k.holds)), i.low v c k);
      fewer = λ two v c k.
          let second : s.profile ≡ Two = same ∙ two in
          let upper : MeetsUpper Two s.graph s.levels v = subst (λ (q : Profile). MeetsUpper q s.graph s.levels v) second (sound.both.upper v (k.core.vertices v k.holds)) in
          let low = rw second at (i.low v c k) in
          omega (arith, out_neighbours_are_few.nearer s.graph s.levels v upper, low);
      proper = λ cs k v w near. colouring_is_proper s.graph s.levels cs sound.graph k v w near;
      bounded = λ cs k v h.
          subst (λ (ws : List ℕ). get_or cs v 0 ≤ length ws) (outs_at s.graph s.levels v h)
          (colours_are_few (orientation s.graph s.levels).outs cs k v (omega (arith, h, outs_sized s.graph s.levels)));
    }

sparse_after : (text : HeaderText) → OrientsSparsely (behind_header MAX_ITEMS text)
sparse_after (Refused line) = tt
sparse_after (Accepted header rest) = λ ts a.
    let z = sound_after header (tokens rest) ts a in
    let same = profile_last (start header.profile header.n) (batches (rules_of header MAX_ITEMS) (tokens rest)) ts a in
    sparse_in header.profile (last_state (start header.profile header.n) ts) same z.0

pub orients_sparsely : (bytes : List ℕ) → OrientsSparsely (input_said bytes)
orients_sparsely bytes = sparse_after (header_of (kept (lines LINE_LIMIT INPUT_LIMIT bytes)))
