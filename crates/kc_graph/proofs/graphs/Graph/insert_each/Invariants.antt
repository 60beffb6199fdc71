use Rattle.std.proofs.Common.{◌≡◌, take, drop}
use Rattle.kc_graph.specs.Shape.{with_edges}
use Rattle.kc_graph.specs.Changes.{CanAdd}
use Rattle.kc_graph.proofs.graphs.Graph.insert_each.Given as goal

abbrev pub invariant-loop-k : goal.invariant-loop-k
invariant-loop-k l =
    CanAdd l.self (drop l.k l.edges)
    × (l.self ≡ with_edges l.initial.self (take l.k l.edges))
