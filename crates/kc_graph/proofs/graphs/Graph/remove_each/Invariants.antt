use Rattle.std.proofs.Common.{◌≡◌, drop}
use Rattle.kc_graph.specs.Shape.{without_edges}
use Rattle.kc_graph.specs.Changes.{CanRemove}
use Rattle.kc_graph.proofs.graphs.Graph.remove_each.Given as goal

abbrev pub invariant-loop-k : goal.invariant-loop-k
invariant-loop-k l =
    CanRemove l.self (drop l.k l.edges)
    × (without_edges l.self (drop l.k l.edges) ≡ without_edges l.initial.self l.edges)
