use Rattle.std.proofs.Common.{◌+◌, ◌≡◌, true, subst, lit<, arith, get_or}
use Rattle.std.proofs.lemmas.Bool.Decides.{nat_tests}
use Rattle.kc_text.specs.Numbers.{is_digit}
use Rattle.kc_text.specs.private.Numbers.{DigitsAt}
use Rattle.kc_text.proofs.Numbering.{no_digits, count_digit, near_value, next_value, next_near}
use Rattle.kc_text.proofs.number.near_digits.Goals as goal

pub loop-count-init : goal.loop-count-init
loop-count-init c =
    let here : c.args.start ≡ c.args.start + 0 = omega arith in
    record {
      few = omega arith;
      digits = subst (λ k. DigitsAt c.args.line.now c.args.start 0 k) here (no_digits c.args.line.now c.args.start (omega (arith, c.requires)));
      small = lit< tt;
    }

pub loop-count-preserved : goal.loop-count-preserved
loop-count-preserved c =
    let i = c.loop-count.invariant in
    let more = c.loop-count-test.true in
    let low = c.if-digit-ge10.false in
    let test = c.digit_of-digit.ensures.test in
    let digit : is_digit (get_or c.args.line.now (c.args.start + c.loop-count.count) 0) ≡ true = grind (arith, nat_tests, low, test) in
    let value = c.digit_of-digit.ensures.digit low in
    record {
      few = omega arith;
      digits = count_digit c.args.line.now c.args.start c.loop-count.value c.loop-count.count _ i.digits (omega (arith, c.requires)) digit (omega (arith, value));
      small = next_value c.loop-count.value c.loop-count.count c.digit_of-digit.result i.small low;
    }

pub returns-then-digit-ge10-clause-small : goal.returns-then-digit-ge10-clause-small
returns-then-digit-ge10-clause-small c = near_value _ c.loop-count.count c.loop-count.invariant.small c.loop-count.invariant.few

pub overflow_mul-value : goal.overflow_mul-value
overflow_mul-value c = omega (arith, next_near c.loop-count.value c.loop-count.count c.digit_of-digit.result c.loop-count.invariant.small c.loop-count-test.true c.if-digit-ge10.false)

pub overflow_add-value : goal.overflow_add-value
overflow_add-value c = omega (arith, next_near c.loop-count.value c.loop-count.count c.digit_of-digit.result c.loop-count.invariant.small c.loop-count-test.true c.if-digit-ge10.false)
