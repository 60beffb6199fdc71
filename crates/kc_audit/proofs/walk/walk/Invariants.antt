use Rattle.std.proofs.Common.{◌≡◌, ◌-◌, ◌≤◌, length, false}
use Rattle.kc_history.specs.Points.{levels_at}
use Rattle.kc_audit.specs.Runs.{history_of}
use Rattle.kc_audit.specs.private.Walks.{AreWithin, HaveTold, IsAwaited}
use Rattle.kc_audit.proofs.Walking.{AreStuck}
use Rattle.kc_audit.proofs.walk.walk.Given as goal

abbrev pub invariant-loop-waits : goal.invariant-loop-waits
invariant-loop-waits l = record {
  point : l.point ≤ length l.run.groups;
  levels : l.levels ≡ levels_at l.run.vertices (history_of l.run.groups) l.point;
  within : AreWithin l.run.readers l.passed;
  stuck : AreStuck l.run.vertices (history_of l.run.groups) l.run.readers l.passed l.point;
  awaited : IsAwaited l.awaited l.run.readers l.passed;
  none : l.waits ≡ false → HaveTold l.run.readers l.passed;
}

abbrev pub decreases-loop-waits : goal.decreases-loop-waits
decreases-loop-waits l = length l.run.groups - l.point
