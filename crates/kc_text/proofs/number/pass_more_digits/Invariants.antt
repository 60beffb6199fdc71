use Rattle.std.proofs.Common.{◌<◌, ◌-◌, ◌^◌, length}
use Rattle.kc_text.specs.private.Numbers.{DigitsAt}
use Rattle.kc_text.proofs.number.pass_more_digits.Given as goal

abbrev pub invariant-loop-at : goal.invariant-loop-at
invariant-loop-at l = record {
  digits : DigitsAt l.line l.start l.value l.at;
  small : l.value < 2 ^ 32;
}

abbrev pub decreases-loop-at : goal.decreases-loop-at
decreases-loop-at l = length l.line - l.at
