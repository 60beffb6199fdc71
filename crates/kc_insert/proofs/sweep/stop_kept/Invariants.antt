use Rattle.std.proofs.Common.{take}
use Rattle.std.specs.List.{flat_map}
use Rattle.kc_insert.specs.Ranges.{Part}
use Rattle.kc_insert.proofs.Stopping.{AreStopped}
use Rattle.kc_insert.proofs.sweep.stop_kept.Given as goal

abbrev pub invariant-loop-range : goal.invariant-loop-range
invariant-loop-range l = AreStopped l.initial.levels l.levels (flat_map (λ (p : Part). p.began) (take l.range-index l.items))
