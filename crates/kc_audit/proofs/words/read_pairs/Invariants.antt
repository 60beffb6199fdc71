use Rattle.std.proofs.Common.{◌≡◌, ◌≤◌, ◌-◌, length, drop}
use Rattle.kc_text.specs.Words.{words}
use Rattle.kc_audit.specs.Words.{pairs_of}
use Rattle.kc_audit.proofs.WordLemmas.{pairs_behind}
use Rattle.kc_audit.proofs.words.read_pairs.Given as goal

abbrev pub invariant-loop-start : goal.invariant-loop-start
invariant-loop-start l = record {
  same : pairs_of l.mark (words (drop l.from l.text)) ≡ pairs_behind l.pairs.items (pairs_of l.mark (words (drop l.at l.text)));
  within : l.at ≤ length l.text;
}

abbrev pub decreases-loop-start : goal.decreases-loop-start
decreases-loop-start l = length l.text - l.at
