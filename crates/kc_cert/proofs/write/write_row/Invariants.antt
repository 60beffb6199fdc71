use Rattle.std.proofs.Common.{◌≡◌, drop}
use Rattle.kc_text.specs.Printing.{printed}
use Rattle.kc_cert.specs.private.Texts.{row_lines}
use Rattle.kc_cert.proofs.Written.{Writes}
use Rattle.kc_cert.proofs.write.write_row.Given as goal

abbrev pub invariant-loop-w : goal.invariant-loop-w
invariant-loop-w g l = record {
  text : Writes (g.K.Sink.taken l.fn.sink) (g.K.Sink.taken l.sink) (printed (row_lines l.v l.neighbours)) (printed (row_lines l.v (drop l.w-index l.neighbours)));
  faults : g.K.Sink.faults l.sink ≡ g.K.Sink.faults l.fn.sink;
}
