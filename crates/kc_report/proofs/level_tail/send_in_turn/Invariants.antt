use Rattle.std.proofs.Common.{◌≡◌}
use Rattle.kc_report.specs.VertexLines.{vertex_lines}
use Rattle.kc_report.specs.private.HeldBack.{IsHeldBack}
use Rattle.kc_report.specs.private.Tails.{line_of}
use Rattle.kc_report.proofs.level_tail.send_in_turn.Given as goal

abbrev pub invariant-loop-v : goal.invariant-loop-v
invariant-loop-v g l = record {
  held : IsHeldBack (g.K.Sink.taken l.fn.sink) (g.K.Sink.taken l.sink) (vertex_lines (line_of l.tail) l.v) l.buf;
  faults : g.K.Sink.faults l.sink ≡ g.K.Sink.faults l.fn.sink;
}
