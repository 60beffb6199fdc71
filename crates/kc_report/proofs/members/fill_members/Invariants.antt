use Rattle.std.proofs.Common.{◌≡◌, ◌++◌, ◌∷◌, length}
use Rattle.std.specs.List.{flat_map}
use Rattle.kc_levels.specs.declared.moves.Move.{Move}
use Rattle.kc_report.specs.Lines.{member_word}
use Rattle.kc_report.proofs.members.fill_members.Given as goal

abbrev pub invariant-loop-rest : goal.invariant-loop-rest
invariant-loop-rest l = l.buf ++ flat_map (λ (m : Move). 32 ∷ member_word m) l.rest ≡ l.initial.buf ++ flat_map (λ (m : Move). 32 ∷ member_word m) l.moves

abbrev pub decreases-loop-rest : goal.decreases-loop-rest
decreases-loop-rest l = length l.rest
