use Rattle.std.proofs.Common.{◌∙◌}
use Rattle.std.proofs.lemmas.Result.{err_from_is_err_and}
use Rattle.kc_cert.proofs.LineTexts.{row_rest, row_end}
use Rattle.kc_cert.proofs.Written.{writes_on, writes_fault, writes_end}
use Rattle.kc_cert.proofs.write.write_row.Goals as goal

pub returns-in_err-write_pair-clause-text : goal.returns-in_err-write_pair-clause-text
returns-in_err-write_pair-clause-text g c =
    let p = err_from_is_err_and c.from_residual.result c.from_residual.ensures.1 in
    let rest = row_rest c.args.v c.loop-w.w-index c.args.neighbours.now c.loop-w-test.true c.if-w-v.false in
    rw p.1 (writes_fault _ _ _ _ _ _ _ rest c.loop-w.invariant.text c.in_err-write_pair.ensures.text)

pub loop-w-preserved : goal.loop-w-preserved
loop-w-preserved g c =
    let rest = row_rest c.args.v c.loop-w.w-index c.args.neighbours.now c.loop-w-test.true c.if-w-v.false in
    record {
      text = writes_on _ _ _ _ _ _ _ rest c.loop-w.invariant.text c.in_ok-write_pair.ensures.text;
      faults = c.in_ok-write_pair.ensures.cause ∙ c.loop-w.invariant.faults;
    }

pub returns-clause-text : goal.returns-clause-text
returns-clause-text g c = writes_end _ _ _ _ (row_end c.args.v c.loop-w.w-index c.args.neighbours.now c.loop-w-test.false) c.loop-w.invariant.text
