use Rattle.std.proofs.Common.{◌≡◌, ◌++◌, take}
use Rattle.kc_insert.specs.private.Crossing.{met_by}
use Rattle.kc_insert.proofs.passes.come_up.Given as goal

abbrev pub invariant-loop-m : goal.invariant-loop-m
invariant-loop-m l = l.told ≡ record l.initial.told { all = l.initial.told.all ++ met_by l.step (take l.m-index l.meetings) }
