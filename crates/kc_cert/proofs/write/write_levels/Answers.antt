use Rattle.std.proofs.Common.{◌∙◌, arith}
use Rattle.std.proofs.lemmas.Result.{err_from_is_err_and}
use Rattle.kc_cert.proofs.LineTexts.{level_rest, level_end}
use Rattle.kc_cert.proofs.Written.{writes_on, writes_fault, writes_end}
use Rattle.kc_cert.proofs.write.write_levels.Goals as goal

pub returns-in_err-write_pair-clause-text : goal.returns-in_err-write_pair-clause-text
returns-in_err-write_pair-clause-text g c =
    let p = err_from_is_err_and c.from_residual.result c.from_residual.ensures.1 in
    let rest = level_rest c.loop-v.v c.from.result c.args.levels.now (omega (arith, c.loop-v-test.true, c.requires.sized)) (c.from.ensures ∙ c.get.ensures) in
    rw p.1 (writes_fault _ _ _ _ _ _ _ rest c.loop-v.invariant.text c.in_err-write_pair.ensures.text)

pub loop-v-preserved : goal.loop-v-preserved
loop-v-preserved g c =
    let rest = level_rest c.loop-v.v c.from.result c.args.levels.now (omega (arith, c.loop-v-test.true, c.requires.sized)) (c.from.ensures ∙ c.get.ensures) in
    record {
      text = writes_on _ _ _ _ _ _ _ rest c.loop-v.invariant.text c.in_ok-write_pair.ensures.text;
      faults = c.in_ok-write_pair.ensures.cause ∙ c.loop-v.invariant.faults;
    }

pub returns-clause-text : goal.returns-clause-text
returns-clause-text g c = writes_end _ _ _ _ (level_end c.loop-v.v c.args.levels.now (omega (arith, c.loop-v-test.false, c.requires.sized))) c.loop-v.invariant.text
