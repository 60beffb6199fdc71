use Rattle.std.proofs.Common.{◌≡◌, ◌≤◌, ◌-◌, length, drop}
use Rattle.kc_text.specs.Words.{words}
use Rattle.kc_batch.specs.Headers.{numbers_of}
use Rattle.kc_batch.proofs.Asking.{numbers_behind}
use Rattle.kc_batch.proofs.text.read_numbers.Given as goal

abbrev pub invariant-loop-start : goal.invariant-loop-start
invariant-loop-start l = record {
  numbers : numbers_of (words l.text) ≡ numbers_behind l.numbers (words (drop l.at l.text));
  within : l.at ≤ length l.text;
}

abbrev pub decreases-loop-start : goal.decreases-loop-start
decreases-loop-start l = length l.text - l.at
