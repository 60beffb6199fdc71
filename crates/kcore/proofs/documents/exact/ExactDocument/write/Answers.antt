use Rattle.std.proofs.Common.{◌≡◌, ◌++◌, ap, ◌∙◌, subst, Err}
use Rattle.std.proofs.lemmas.Result.{err_from_is_err_and}
use Rattle.kc_text.proofs.lemmas.Writing.{prefix_longer, appends_then}
use Rattle.kc_graph.specs.Shape.{GraphShape}
use Rattle.kc_report.specs.Lines.{exact_head_text, end_line}
use Rattle.kc_report.specs.VertexLines.{vertex_lines}
use Rattle.kcore.specs.Corenesses.{AreCorenesses}
use Rattle.kcore.specs.ExactText.{exact_vertex_text}
use Rattle.kcore.proofs.ExactTexts.{exact_written, nothing_of_it}
use Rattle.kcore.proofs.documents.exact.ExactDocument.write.Goals as goal

pub returns-in_err-corenesses-clause-text : goal.returns-in_err-corenesses-clause-text
returns-in_err-corenesses-clause-text g c =
    let p = err_from_is_err_and c.from_residual.result c.from_residual.ensures.1 in
    rw (p.1, ← c.last.view_is) (nothing_of_it c.last.inside.engine.now.state (g.K.Sink.taken c.args.sink.now) p.0 c.last.invariant.sound)

pub returns-in_err-write_exact_head-clause-text : goal.returns-in_err-write_exact_head-clause-text
returns-in_err-write_exact_head-clause-text g c =
    let s = c.last.inside.engine.now.state in
    let cs = c.in_ok-corenesses.corenesses.items in
    let n = c.vertices-n.result in
    let count : n ≡ s.graph.vertices = c.vertices-n.ensures.count ∙ ap (λ (h : GraphShape). h.vertices) c.graph.ensures.value in
    let k : AreCorenesses s.graph cs = subst (λ (h : GraphShape). AreCorenesses h cs) c.graph-2.ensures.value (record { sized = c.in_ok-corenesses.ensures.sized; each = c.in_ok-corenesses.ensures.coreness }) in
    let p = err_from_is_err_and c.from_residual-in_err-write_exact_head.result c.from_residual-in_err-write_exact_head.ensures.1 in
    rw (p.1, ← c.last.view_is) (exact_written s cs n _ _ (Err p.0) count k (prefix_longer _ _ (exact_head_text n) (vertex_lines (exact_vertex_text s cs) n ++ end_line) c.in_err-write_exact_head.ensures.text))

pub returns-clause-text : goal.returns-clause-text
returns-clause-text g c =
    let s = c.last.inside.engine.now.state in
    let cs = c.in_ok-corenesses.corenesses.items in
    let n = c.vertices-n.result in
    let count : n ≡ s.graph.vertices = c.vertices-n.ensures.count ∙ ap (λ (h : GraphShape). h.vertices) c.graph.ensures.value in
    let k : AreCorenesses s.graph cs = subst (λ (h : GraphShape). AreCorenesses h cs) c.graph-2.ensures.value (record { sized = c.in_ok-corenesses.ensures.sized; each = c.in_ok-corenesses.ensures.coreness }) in
    rw (← c.last.view_is) (exact_written s cs n _ _ c.write_tail.result count k
    (appends_then _ _ _ (exact_head_text n) (vertex_lines (exact_vertex_text s cs) n ++ end_line) c.write_tail.result c.in_ok-write_exact_head.ensures.text (rw c.as_slice.ensures.value at c.write_tail.ensures.text)))
