use Rattle.std.proofs.Common.{◌<◌, ◌≤◌, ◌-◌, ◌+◌, ◌^◌}
use Rattle.kc_text.specs.private.Numbers.{DigitsAt}
use Rattle.kc_text.proofs.number.near_digits.Given as goal

abbrev pub invariant-loop-count : goal.invariant-loop-count
invariant-loop-count l = record {
  few : l.count ≤ 8;
  digits : DigitsAt l.line l.start l.value (l.start + l.count);
  small : l.value < 10 ^ l.count;
}

abbrev pub decreases-loop-count : goal.decreases-loop-count
decreases-loop-count l = 8 - l.count
