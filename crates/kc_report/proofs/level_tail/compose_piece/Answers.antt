use Rattle.std.proofs.Common.{◌*◌}
use Rattle.kc_report.specs.private.Tails.{line_of}
use Rattle.kc_report.proofs.VertexLemmas.{piece_line}
use Rattle.kc_report.proofs.level_tail.compose_piece.Goals as goal

pub loop-v-preserved : goal.loop-v-preserved
loop-v-preserved g c = piece_line (line_of c.args.tail.now) (c.args.piece * 8192) c.loop-v.v _ _ c.loop-v.invariant c.in_ok-append_line.ensures
