use Rattle.std.proofs.Common.{arith, ◌≡◌, ◌∙◌, refl}
use Rattle.std.proofs.lemmas.Result.{err_from_is_err_and}
use Rattle.kc_text.proofs.lemmas.Writing.{append_none, prefix_longer, appends_then}
use Rattle.kc_report.specs.Lines.{end_line}
use Rattle.kc_report.specs.VertexLines.{vertex_lines}
use Rattle.kc_report.proofs.VertexLemmas.{lines_more, lines_prefix}
use Rattle.kc_report.proofs.tail.write_tail.Goals as goal

pub loop-v-init : goal.loop-v-init
unfolding vertex_lines
loop-v-init g c = record { taken = append_none _; faults = refl }

pub returns-in_err-write_line-clause-text : goal.returns-in_err-write_line-clause-text
returns-in_err-write_line-clause-text g c =
    let p = err_from_is_err_and c.from_residual.result c.from_residual.ensures.1 in
    let line = g.L.VertexLines.line c.args.lines.now in
    rw p.1 (prefix_longer _ _ (vertex_lines line c.args.n) end_line (lines_prefix line _ _ _ c.loop-v.v c.args.n (omega arith) c.loop-v.invariant.taken c.in_err-write_line.ensures.text))

pub loop-v-preserved : goal.loop-v-preserved
loop-v-preserved g c = record {
  taken = lines_more (g.L.VertexLines.line c.args.lines.now) _ _ _ c.loop-v.v c.loop-v.invariant.taken c.in_ok-write_line.ensures.text;
  faults = c.in_ok-write_line.ensures.cause ∙ c.loop-v.invariant.faults;
}

pub returns-clause-text : goal.returns-clause-text
returns-clause-text g c =
    let end : c.loop-v.v ≡ c.args.n = omega (arith, c.loop-v-test.false, c.loop-v.auto.v-end) in
    appends_then _ _ _ (vertex_lines (g.L.VertexLines.line c.args.lines.now) c.args.n) end_line c.put_end.result (rw end at c.loop-v.invariant.taken) c.put_end.ensures.text
