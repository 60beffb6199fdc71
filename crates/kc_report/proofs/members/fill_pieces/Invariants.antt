use Rattle.std.proofs.Common.{◌≡◌, ◌*◌, ◌++◌, ◌∷◌, take}
use Rattle.std.specs.List.{flat_map}
use Rattle.kc_levels.specs.declared.moves.Move.{Move}
use Rattle.kc_report.specs.Lines.{member_word}
use Rattle.kc_report.proofs.members.fill_pieces.Given as goal

abbrev pub invariant-loop-piece : goal.invariant-loop-piece
invariant-loop-piece g l = l.buf ≡ l.initial.buf ++ flat_map (λ (m : Move). 32 ∷ member_word m) (take (l.piece-index * l.size) l.moves)
