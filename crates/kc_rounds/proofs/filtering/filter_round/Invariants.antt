use Rattle.std.proofs.Common.{◌≡◌, ◌*◌, filter, take}
use Rattle.kc_rounds.proofs.filtering.filter_round.Given as goal

abbrev pub invariant-loop-piece : goal.invariant-loop-piece
invariant-loop-piece g l = l.kept.items ≡ filter (g.F.RoundTest.keeps l.test) (take (l.piece-index * l.size) l.candidates)
