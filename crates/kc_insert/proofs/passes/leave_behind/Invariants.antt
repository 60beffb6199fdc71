use Rattle.std.proofs.Common.{take}
use Rattle.kc_insert.specs.private.Crossing.{left_at}
use Rattle.kc_insert.proofs.Leaving.{IsLessBy}
use Rattle.kc_insert.proofs.passes.leave_behind.Given as goal

abbrev pub invariant-loop-m : goal.invariant-loop-m
invariant-loop-m l = IsLessBy (left_at l.step (take l.m-index l.met)) l.initial.watched l.watched
