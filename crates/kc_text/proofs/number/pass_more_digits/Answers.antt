use Rattle.std.proofs.Common.{◌∙◌, sym, refl, arith}
use Rattle.kc_text.proofs.DigitRuns.{too_large, past_stops}
use Rattle.kc_text.proofs.Numbering.{more_digits}
use Rattle.kc_text.proofs.number.pass_more_digits.Goals as goal

pub loop-at-preserved : goal.loop-at-preserved
loop-at-preserved c = record {
  digits = more_digits c.args.line.now c.args.start c.loop-at.value c.loop-at.at _ c.loop-at.invariant.digits c.loop-at-test.true (sym c.is_digit.ensures ∙ c.if-not-is_digit.false) refl;
  small = omega (arith, c.if-value.false);
}

pub returns-then-value-clause-none : goal.returns-then-value-clause-none
returns-then-value-clause-none c =
    too_large c.args.line.now c.args.start c.loop-at.value c.loop-at.at _ c.loop-at.invariant.digits c.loop-at-test.true (sym c.is_digit.ensures ∙ c.if-not-is_digit.false) refl (omega (arith, c.if-value.true))

pub returns-clause-stop : goal.returns-clause-stop
returns-clause-stop c = past_stops c.args.line.now c.loop-at.at (omega (arith, c.loop-at-test.false))
