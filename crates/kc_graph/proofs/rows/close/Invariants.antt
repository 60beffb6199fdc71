use Rattle.std.proofs.Common.{◌≡◌, ◌++◌, take, drop}
use Rattle.kc_graph.proofs.rows.close.Given as goal

abbrev pub invariant-loop : goal.invariant-loop
invariant-loop l = l.items.items ≡ take l.from l.initial.items.items ++ drop l.counter l.initial.items.items
