use Rattle.std.proofs.Common.{◌≡◌, ◌++◌, ap, ◌∙◌, Err}
use Rattle.std.proofs.lemmas.Result.{err_from_is_err_and}
use Rattle.kc_text.proofs.lemmas.Writing.{prefix_longer, appends_then}
use Rattle.kc_graph.specs.Shape.{GraphShape}
use Rattle.kc_report.specs.Lines.{end_line}
use Rattle.kc_report.specs.VertexLines.{vertex_lines}
use Rattle.kc_orient.specs.Shape.{orientation}
use Rattle.kcore.specs.OrientLines.{orient_head_text}
use Rattle.kcore.specs.OrientText.{oriented_vertex_text}
use Rattle.kcore.proofs.OrientTexts.{oriented_written, nothing_of_it}
use Rattle.kcore.proofs.documents.orient.OrientDocument.write.Goals as goal

pub returns-in_err-oriented-clause-text : goal.returns-in_err-oriented-clause-text
returns-in_err-oriented-clause-text g c =
    let p = err_from_is_err_and c.from_residual.result c.from_residual.ensures.1 in
    rw (p.1, ← c.last.view_is) (nothing_of_it c.last.inside.engine.now.state (g.K.Sink.taken c.args.sink.now) p.0 c.last.invariant.sound)

pub returns-in_err-write_opening-clause-text : goal.returns-in_err-write_opening-clause-text
returns-in_err-write_opening-clause-text g c =
    let s = c.last.inside.engine.now.state in
    let cs = c.in_ok-oriented.colours.items in
    let n = c.vertices-n.result in
    let count : n ≡ s.graph.vertices = c.vertices-n.ensures.count ∙ ap (λ (h : GraphShape). h.vertices) c.graph.ensures.value in
    let k = rw (c.graph-2.ensures.value, c.levels.ensures.value) at c.in_ok-oriented.ensures.colours in
    let p = err_from_is_err_and c.from_residual-in_err-write_opening.result c.from_residual-in_err-write_opening.ensures.1 in
    rw (p.1, ← c.last.view_is)
    (
    oriented_written s cs n _ _ (Err p.0) count k
    (prefix_longer _ _ (orient_head_text n) (vertex_lines (oriented_vertex_text (orientation s.graph s.levels) cs) n ++ end_line) c.in_err-write_opening.ensures.text)
    )

pub returns-clause-text : goal.returns-clause-text
returns-clause-text g c =
    let s = c.last.inside.engine.now.state in
    let cs = c.in_ok-oriented.colours.items in
    let n = c.vertices-n.result in
    let count : n ≡ s.graph.vertices = c.vertices-n.ensures.count ∙ ap (λ (h : GraphShape). h.vertices) c.graph.ensures.value in
    let k = rw (c.graph-2.ensures.value, c.levels.ensures.value) at c.in_ok-oriented.ensures.colours in
    let same = rw (c.graph-2.ensures.value, c.levels.ensures.value) at c.in_ok-oriented.ensures.orientation in
    rw (← c.last.view_is)
    (
    oriented_written s cs n _ _ c.write_tail.result count k
    (
    appends_then _ _ _ (orient_head_text n) (vertex_lines (oriented_vertex_text (orientation s.graph s.levels) cs) n ++ end_line) c.write_tail.result c.in_ok-write_opening.ensures.text
    (rw (c.as_slice.ensures.value, same) at c.write_tail.ensures.text)
    )
    )
