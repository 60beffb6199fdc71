use Rattle.std.proofs.Common.{◌≡◌, ◌++◌, take}
use Rattle.std.specs.List.{flat_map}
use Rattle.std.specs.Io.KnownBytes.{append_known}
use Rattle.kserve.specs.Lines.{batch_line, take_line}
use Rattle.kserve.proofs.lines.write_batch.Given as goal

abbrev pub invariant-loop-update : goal.invariant-loop-update
invariant-loop-update g l = record {
  taken : g.K.Sink.taken l.sink ≡ append_known (g.K.Sink.taken l.fn.sink) (batch_line l.batch.number ++ flat_map take_line (take l.update-index l.batch.updates.now));
  faults : g.K.Sink.faults l.sink ≡ g.K.Sink.faults l.fn.sink;
}
