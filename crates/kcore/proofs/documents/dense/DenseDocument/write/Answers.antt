use Rattle.std.proofs.Common.{◌≡◌, ◌≤◌, ◌++◌, length, ap, ◌∙◌, subst, Err, arith}
use Rattle.std.specs.List.{flat_map}
use Rattle.std.proofs.lemmas.Result.{err_from_is_err_and}
use Rattle.kc_text.proofs.lemmas.Writing.{prefix_longer, prefix_then, appends_then}
use Rattle.kc_graph.specs.Shape.{GraphShape}
use Rattle.kc_dense.specs.Sets.{members_of, edges_within}
use Rattle.kc_dense.specs.Dense.{IsDensePart}
use Rattle.kc_report.specs.Lines.{end_line}
use Rattle.kcore.specs.DenseLines.{dense_head_text, size_line, member_line}
use Rattle.kcore.proofs.DenseLineLemmas.{ahead_of_end, end_after}
use Rattle.kcore.proofs.DenseTexts.{dense_written, nothing_of_it}
use Rattle.kcore.proofs.documents.dense.DenseDocument.write.Goals as goal

pub returns-in_err-part-clause-text : goal.returns-in_err-part-clause-text
returns-in_err-part-clause-text g c =
    let p = err_from_is_err_and c.from_residual.result c.from_residual.ensures.1 in
    rw (p.1, ← c.last.view_is) (nothing_of_it c.last.inside.engine.now.state (g.K.Sink.taken c.args.sink.now) p.0 c.last.invariant.sound)

pub write_part-requires : goal.write_part-requires
write_part-requires g c = record {
  few = omega (arith, c.in_ok-part.ensures.few, c.vertices.ensures.small);
}

pub returns-in_err-write_opening-clause-text : goal.returns-in_err-write_opening-clause-text
returns-in_err-write_opening-clause-text g c =
    let s = c.last.inside.engine.now.state in
    let members = c.in_ok-part.part.members.items in
    let n = c.vertices.result in
    let count : n ≡ s.graph.vertices = c.vertices.ensures.count ∙ ap (λ (h : GraphShape). h.vertices) c.graph-graph.ensures.value in
    let some : 1 ≤ n = omega (arith, c.vertices.ensures.positive, c.vertices.ensures.count) in
    let part : IsDensePart s.graph members = subst (λ (h : GraphShape). IsDensePart h members) c.graph-graph.ensures.value c.in_ok-part.ensures.members in
    let within : c.in_ok-part.part.edges ≡ edges_within s.graph (members_of members) = c.in_ok-part.ensures.edges ∙ ap (λ (h : GraphShape). edges_within h (members_of members)) c.graph-graph.ensures.value in
    let p = err_from_is_err_and c.from_residual-in_err-write_opening.result c.from_residual-in_err-write_opening.ensures.1 in
    rw (p.1, ← c.last.view_is) (dense_written s members n c.in_ok-part.part.edges _ _ (Err p.0) count some part within
    (prefix_longer _ _ (dense_head_text n) (size_line (length members) c.in_ok-part.part.edges ++ (flat_map member_line members ++ end_line)) c.in_err-write_opening.ensures.text))

pub returns-in_err-write_part-clause-text : goal.returns-in_err-write_part-clause-text
returns-in_err-write_part-clause-text g c =
    let s = c.last.inside.engine.now.state in
    let members = c.in_ok-part.part.members.items in
    let size = size_line (length members) c.in_ok-part.part.edges in
    let n = c.vertices.result in
    let count : n ≡ s.graph.vertices = c.vertices.ensures.count ∙ ap (λ (h : GraphShape). h.vertices) c.graph-graph.ensures.value in
    let some : 1 ≤ n = omega (arith, c.vertices.ensures.positive, c.vertices.ensures.count) in
    let part : IsDensePart s.graph members = subst (λ (h : GraphShape). IsDensePart h members) c.graph-graph.ensures.value c.in_ok-part.ensures.members in
    let within : c.in_ok-part.part.edges ≡ edges_within s.graph (members_of members) = c.in_ok-part.ensures.edges ∙ ap (λ (h : GraphShape). edges_within h (members_of members)) c.graph-graph.ensures.value in
    let p = err_from_is_err_and c.from_residual-in_err-write_part.result c.from_residual-in_err-write_part.ensures.1 in
    rw (p.1, ← c.last.view_is) (dense_written s members n c.in_ok-part.part.edges _ _ (Err p.0) count some part within
    (prefix_then _ _ _ (dense_head_text n) (size ++ (flat_map member_line members ++ end_line)) c.in_ok-write_opening.ensures.text
    (ahead_of_end _ _ size (flat_map member_line members) end_line c.in_err-write_part.ensures.text)))

pub returns-clause-text : goal.returns-clause-text
returns-clause-text g c =
    let s = c.last.inside.engine.now.state in
    let members = c.in_ok-part.part.members.items in
    let size = size_line (length members) c.in_ok-part.part.edges in
    let n = c.vertices.result in
    let count : n ≡ s.graph.vertices = c.vertices.ensures.count ∙ ap (λ (h : GraphShape). h.vertices) c.graph-graph.ensures.value in
    let some : 1 ≤ n = omega (arith, c.vertices.ensures.positive, c.vertices.ensures.count) in
    let part : IsDensePart s.graph members = subst (λ (h : GraphShape). IsDensePart h members) c.graph-graph.ensures.value c.in_ok-part.ensures.members in
    let within : c.in_ok-part.part.edges ≡ edges_within s.graph (members_of members) = c.in_ok-part.ensures.edges ∙ ap (λ (h : GraphShape). edges_within h (members_of members)) c.graph-graph.ensures.value in
    rw (← c.last.view_is)
    (dense_written s members n c.in_ok-part.part.edges _ _ c.write_end.result count some part within
    (appends_then _ _ _ (dense_head_text n) (size ++ (flat_map member_line members ++ end_line)) c.write_end.result c.in_ok-write_opening.ensures.text
    (end_after _ _ _ size (flat_map member_line members) end_line c.write_end.result c.in_ok-write_part.ensures.text c.write_end.ensures.text)))
