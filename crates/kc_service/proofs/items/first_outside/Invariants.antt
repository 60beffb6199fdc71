use Rattle.std.specs.Prelude.{All}
use Rattle.std.proofs.Common.{take}
use Rattle.kc_graph.specs.Cleaning.{IsInside}
use Rattle.kc_service.proofs.items.first_outside.Given as goal

abbrev pub invariant-loop-i : goal.invariant-loop-i
invariant-loop-i l = All (IsInside l.n) (take l.i l.items)
