use Rattle.std.proofs.Common.{◌∙◌, arith}
use Rattle.std.proofs.lemmas.Result.{err_from_is_err_and}
use Rattle.std.proofs.lemmas.Bool.Decides.{nat_tests}
use Rattle.kc_cert.proofs.EdgeRows.{all_edges, row_printed, last_printed}
use Rattle.kc_cert.proofs.Written.{writes_start, writes_on, writes_fault, writes_end}
use Rattle.kc_cert.proofs.write.write_edges.Goals as goal

pub loop-v-init : goal.loop-v-init
loop-v-init g c = grind (arith, nat_tests, all_edges, writes_start)

pub returns-in_err-write_row-clause-text : goal.returns-in_err-write_row-clause-text
returns-in_err-write_row-clause-text g c =
    let p = err_from_is_err_and c.from_residual.result c.from_residual.ensures.1 in
    let rest = row_printed c.args.graph.now.vertices c.loop-v.v c.args.graph.now.edges c.neighbours.result.now c.vertices-v-end.ensures.graph c.neighbours.ensures.value in
    rw p.1 (writes_fault _ _ _ _ _ _ _ rest c.loop-v.invariant.text c.in_err-write_row.ensures.text)

pub loop-v-preserved : goal.loop-v-preserved
loop-v-preserved g c =
    let rest = row_printed c.args.graph.now.vertices c.loop-v.v c.args.graph.now.edges c.neighbours.result.now c.vertices-v-end.ensures.graph c.neighbours.ensures.value in
    record {
      text = writes_on _ _ _ _ _ _ _ rest c.loop-v.invariant.text c.in_ok-write_row.ensures.text;
      faults = c.in_ok-write_row.ensures.cause ∙ c.loop-v.invariant.faults;
    }

pub returns-clause-text : goal.returns-clause-text
returns-clause-text g c =
    writes_end _ _ _ _ (last_printed c.args.graph.now.vertices c.loop-v.v c.args.graph.now.edges (omega (arith, c.loop-v-test.false, c.vertices-v-end.ensures.count)) c.vertices-v-end.ensures.graph) c.loop-v.invariant.text
