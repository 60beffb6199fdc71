use Rattle.std.proofs.Common.{◌≡◌, filter, take}
use Rattle.kc_rounds.proofs.filtering.filter_piece.Given as goal

abbrev pub invariant-loop-v : goal.invariant-loop-v
invariant-loop-v g l = l.kept.items ≡ filter (g.F.RoundTest.keeps l.test) (take l.v-index l.piece)
