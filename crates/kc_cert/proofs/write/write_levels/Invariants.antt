use Rattle.std.proofs.Common.{◌≡◌, drop}
use Rattle.kc_text.specs.Printing.{printed}
use Rattle.kc_cert.specs.Texts.{level_lines}
use Rattle.kc_cert.proofs.Written.{Writes}
use Rattle.kc_cert.proofs.write.write_levels.Given as goal

abbrev pub invariant-loop-v : goal.invariant-loop-v
invariant-loop-v g l = record {
  text : Writes (g.K.Sink.taken l.fn.sink) (g.K.Sink.taken l.sink) (printed (level_lines 0 l.levels)) (printed (level_lines l.v (drop l.v l.levels)));
  faults : g.K.Sink.faults l.sink ≡ g.K.Sink.faults l.fn.sink;
}
