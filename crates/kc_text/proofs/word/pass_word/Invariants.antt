use Rattle.std.proofs.Common.{◌≡◌, ◌≤◌, ◌<◌, ◌-◌, length, drop}
use Rattle.std.specs.List.{slice_range}
use Rattle.kc_text.specs.Words.{words, words_from}
use Rattle.kc_text.proofs.word.pass_word.Given as goal

abbrev pub invariant-loop-at : goal.invariant-loop-at
invariant-loop-at l = record {
  after : l.start < l.at;
  within : l.at ≤ length l.line;
  words : words (drop l.start l.line) ≡ words_from (slice_range l.line l.start l.at) (drop l.at l.line);
}

abbrev pub decreases-loop-at : goal.decreases-loop-at
decreases-loop-at l = length l.line - l.at
