use Rattle.std.proofs.Common.{◌≡◌, ◌≤◌, ◌+◌, ◌*◌, ◌-◌, min}
use Rattle.std.specs.Io.KnownBytes.{append_known}
use Rattle.kc_report.specs.VertexLines.{vertex_lines}
use Rattle.kc_report.specs.private.Tails.{line_of, count_of}
use Rattle.kc_report.proofs.level_tail.send_in_rounds.Given as goal

abbrev pub invariant-loop-sent : goal.invariant-loop-sent
invariant-loop-sent g l = record {
  taken : g.K.Sink.taken l.sink ≡ append_known (g.K.Sink.taken l.fn.sink) (vertex_lines (line_of l.tail) (min (l.sent * 8192) (count_of l.tail)));
  faults : g.K.Sink.faults l.sink ≡ g.K.Sink.faults l.fn.sink;
  within : l.sent ≤ l.pieces;
}

abbrev pub decreases-loop-sent : goal.decreases-loop-sent
decreases-loop-sent g l = l.pieces - l.sent

abbrev pub invariant-loop-text : goal.invariant-loop-text
invariant-loop-text g l = record {
  taken : g.K.Sink.taken l.sink ≡ append_known (g.K.Sink.taken l.fn.sink) (vertex_lines (line_of l.tail) (min (l.sent * 8192) (count_of l.tail)));
  faults : g.K.Sink.faults l.sink ≡ g.K.Sink.faults l.fn.sink;
  counted : l.sent ≡ l.first + l.text-index;
}
