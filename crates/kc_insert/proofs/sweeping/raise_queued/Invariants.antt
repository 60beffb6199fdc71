use Rattle.std.proofs.Common.{◌+◌, ◌-◌, ◌≤◌}
use Rattle.kc_levels.specs.Thresholds.{top_level}
use Rattle.kc_insert.specs.private.LevelStep.{IsRunning}
use Rattle.kc_insert.proofs.sweeping.raise_queued.Given as goal

abbrev pub invariant-loop-sweep : goal.invariant-loop-sweep
invariant-loop-sweep g l =
    (l.sweep.levels.level ≤ top_level l.scaled.th.now.profile l.scaled.graph.now.vertices + 1)
    × IsRunning l.scaled.th.now.profile l.scaled.graph.now l.fn.sweep.levels.stored l.fn.steps l.steps l.sweep.levels l.sweep.ranges

abbrev pub decreases-loop-sweep : goal.decreases-loop-sweep
decreases-loop-sweep g l = top_level l.scaled.th.now.profile l.scaled.th.now.vertices + 1 - l.sweep.levels.level
