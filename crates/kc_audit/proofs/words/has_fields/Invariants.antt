use Rattle.std.proofs.Common.{◌≡◌, ◌≤◌, ◌-◌, length, drop}
use Rattle.kc_text.specs.Words.{words}
use Rattle.kc_audit.specs.Words.{has_fields}
use Rattle.kc_audit.proofs.words.has_fields.Given as goal

abbrev pub invariant-loop-name_start : goal.invariant-loop-name_start
invariant-loop-name_start l = record {
  same : has_fields (words l.names) (words (drop l.from l.text)) ≡ has_fields (words (drop l.name_at l.names)) (words (drop l.at l.text));
  within : l.at ≤ length l.text;
  names_within : l.name_at ≤ length l.names;
}

abbrev pub decreases-loop-name_start : goal.decreases-loop-name_start
decreases-loop-name_start l = length l.names - l.name_at
