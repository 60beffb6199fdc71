use Rattle.std.proofs.Common.{◌≡◌, ◌++◌, take}
use Rattle.std.specs.List.{flat_map}
use Rattle.kc_report.specs.Lines.{phase_line, group_line}
use Rattle.kc_report.specs.private.HeldBack.{IsHeldBack}
use Rattle.kc_report.proofs.phases.write_phase.Given as goal

abbrev pub invariant-loop-group : goal.invariant-loop-group
invariant-loop-group g l = record {
  held : IsHeldBack (g.K.Sink.taken l.fn.sink) (g.K.Sink.taken l.sink) (phase_line l.plan ++ flat_map group_line (take l.group-index l.plan.groups)) l.buf;
  faults : g.K.Sink.faults l.sink ≡ g.K.Sink.faults l.fn.sink;
}
