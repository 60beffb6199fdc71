use Rattle.std.proofs.Common.{◌≡◌, ◌++◌, take}
use Rattle.std.specs.List.{flat_map}
use Rattle.kc_insert.specs.private.Crossing.{rising_near}
use Rattle.kc_insert.proofs.Rows.{AreSteps}
use Rattle.kc_insert.proofs.passes.tell_parting.Given as goal

abbrev pub invariant-loop-i : goal.invariant-loop-i
invariant-loop-i l =
    (l.told ≡ record l.initial.told { all = l.initial.told.all ++ flat_map (rising_near l.step) (take l.i l.stay) })
    × AreSteps l.step.graph l.stay l.i l.steps
