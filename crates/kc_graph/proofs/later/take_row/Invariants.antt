use Rattle.std.proofs.Common.{◌≡◌, ◌++◌, drop}
use Rattle.kc_graph.specs.private.Later.{untouched_at}
use Rattle.kc_graph.proofs.later.take_row.Given as goal

abbrev pub invariant-loop-w : goal.invariant-loop-w
invariant-loop-w l = l.removed ++ untouched_at l.touched l.v (drop l.w-index l.row) ≡ l.fn.removed ++ untouched_at l.touched l.v l.row
