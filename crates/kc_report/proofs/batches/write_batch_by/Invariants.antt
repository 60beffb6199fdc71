use Rattle.std.proofs.Common.{◌≡◌, [], ◌++◌, take}
use Rattle.std.specs.List.{flat_map}
use Rattle.std.specs.Io.KnownBytes.{append_known}
use Rattle.kc_report.specs.Lines.{batch_line, phase_text}
use Rattle.kc_report.proofs.batches.write_batch_by.Given as goal

abbrev pub invariant-loop-plan : goal.invariant-loop-plan
invariant-loop-plan g l = record {
  taken : g.K.Sink.taken l.sink ≡ append_known (g.K.Sink.taken l.fn.sink) (batch_line l.batch.number l.batch.cleaned.now ++ flat_map phase_text (take l.plan-index l.phases));
  empty : l.buf ≡ [];
  faults : g.K.Sink.faults l.sink ≡ g.K.Sink.faults l.fn.sink;
}
