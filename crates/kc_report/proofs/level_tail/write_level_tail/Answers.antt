use Rattle.std.proofs.lemmas.Result.{err_from_is_err_and}
use Rattle.kc_text.proofs.lemmas.Writing.{appends_then, prefix_longer}
use Rattle.kc_report.specs.Lines.{end_line}
use Rattle.kc_report.specs.VertexLines.{vertex_lines, vertex_text}
use Rattle.kc_report.proofs.level_tail.write_level_tail.Goals as goal

pub returns-in_err-send_lines-clause-text : goal.returns-in_err-send_lines-clause-text
returns-in_err-send_lines-clause-text g c =
    let p = err_from_is_err_and c.from_residual-in_err-send_lines.result c.from_residual-in_err-send_lines.ensures.1 in
    rw p.1 (prefix_longer _ _ (vertex_lines (vertex_text c.args.th.now.profile c.args.graph.now c.args.levels.now) c.args.graph.now.vertices) end_line c.in_err-send_lines.ensures.text)

pub returns-clause-text : goal.returns-clause-text
returns-clause-text g c =
    let lines = vertex_lines (vertex_text c.args.th.now.profile c.args.graph.now c.args.levels.now) c.args.graph.now.vertices in
    appends_then _ _ _ lines end_line c.put_end.result c.in_ok-send_lines.ensures.text c.put_end.ensures.text
