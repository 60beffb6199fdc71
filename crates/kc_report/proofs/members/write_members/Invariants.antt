use Rattle.std.proofs.Common.{◌≡◌, ◌≤◌, ◌*◌, ◌∷◌, length, drop}
use Rattle.std.specs.List.{flat_map}
use Rattle.kc_levels.specs.declared.moves.Move.{Move}
use Rattle.kc_report.specs.Lines.{member_word}
use Rattle.kc_report.proofs.members.write_members.Given as goal

abbrev pub invariant-loop-left : goal.invariant-loop-left
invariant-loop-left l = record {
  room : 22 * l.left ≤ l.at;
  within : l.at ≤ 176;
  few : l.left ≤ length l.moves;
  written : drop l.at l.words ≡ flat_map (λ (m : Move). 32 ∷ member_word m) (drop l.left l.moves);
}

abbrev pub decreases-loop-left : goal.decreases-loop-left
decreases-loop-left l = l.left
