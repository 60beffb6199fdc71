use Rattle.std.proofs.Common.{◌≡◌}
use Rattle.kc_text.specs.Printing.{printed}
use Rattle.std.specs.Prelude.{map}
use Rattle.kc_cert.specs.Texts.{edge_line}
use Rattle.kc_cert.proofs.EdgeRows.{edges_from}
use Rattle.kc_cert.proofs.Written.{Writes}
use Rattle.kc_cert.proofs.write.write_edges.Given as goal

abbrev pub invariant-loop-v : goal.invariant-loop-v
invariant-loop-v g l = record {
  text : Writes (g.K.Sink.taken l.fn.sink) (g.K.Sink.taken l.sink) (printed (map edge_line l.graph.edges)) (printed (map edge_line (edges_from l.v l.graph.edges)));
  faults : g.K.Sink.faults l.sink ≡ g.K.Sink.faults l.fn.sink;
}
