use Rattle.std.proofs.Common.{◌≡◌, [], replicate}
use Rattle.kc_graph.proofs.graphs.Graph.new.Given as goal

abbrev pub invariant-loop : goal.invariant-loop
invariant-loop l = l.rows.items ≡ replicate l.counter []
