use Rattle.std.proofs.Common.{◌≡◌, ◌++◌, take}
use Rattle.std.specs.Prelude.{filter}
use Rattle.kc_orient.specs.Shape.{above}
use Rattle.kc_orient.proofs.orienting.push_above.Given as goal

abbrev pub invariant-loop-w : goal.invariant-loop-w
invariant-loop-w l = l.list.items ≡ l.fn.list.items ++ filter (above l.levels l.v) (take l.w-index l.vertices)
