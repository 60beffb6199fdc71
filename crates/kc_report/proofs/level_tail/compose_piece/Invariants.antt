use Rattle.std.proofs.Common.{◌*◌}
use Rattle.kc_report.specs.private.Tails.{line_of, AreLinesOf}
use Rattle.kc_report.proofs.level_tail.compose_piece.Given as goal

abbrev pub invariant-loop-v : goal.invariant-loop-v
invariant-loop-v g l = AreLinesOf (line_of l.tail) (l.piece * 8192) l.v l.text
