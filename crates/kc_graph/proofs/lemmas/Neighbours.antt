-- What other crates may cite of the neighbours of a vertex.

-- w is a neighbour of v where the two share an edge
pub use Rattle.kc_graph.proofs.NeighbourLemmas.{has_number-neighbours_of}
-- w is a neighbour of v where v is one of w
pub use Rattle.kc_graph.proofs.NeighbourLemmas.{neighbours_both}
-- no vertex is its own neighbour
pub use Rattle.kc_graph.proofs.NeighbourLemmas.{no_own_neighbour}
-- a neighbour is a vertex of the graph
pub use Rattle.kc_graph.proofs.NeighbourLemmas.{neighbour_below}
-- all neighbours of a vertex are vertices of the graph
pub use Rattle.kc_graph.proofs.NeighbourLemmas.{neighbours_below}
-- neighbours stand in ascending order
pub use Rattle.kc_graph.proofs.NeighbourLemmas.{neighbours_rise}
-- a vertex has fewer neighbours than there are vertices
pub use Rattle.kc_graph.proofs.NeighbourLemmas.{fewer_neighbours}
-- to count over the neighbours of v is to count over all vertices that share an edge with v
pub use Rattle.kc_graph.proofs.NeighbourLemmas.{count_by-neighbours_of}
-- an edge (a, b) that comes in makes b a neighbour of a
pub use Rattle.kc_graph.proofs.NeighbourLemmas.{neighbours_of_insert_low}
-- an edge (a, b) that comes in makes a a neighbour of b
pub use Rattle.kc_graph.proofs.NeighbourLemmas.{neighbours_of_insert_high}
-- an edge that comes in leaves the neighbours of any third vertex as they were
pub use Rattle.kc_graph.proofs.NeighbourLemmas.{neighbours_of_insert_other}
-- an edge (a, b) that leaves takes b from the neighbours of a
pub use Rattle.kc_graph.proofs.NeighbourLemmas.{neighbours_of_remove_low}
-- an edge (a, b) that leaves takes a from the neighbours of b
pub use Rattle.kc_graph.proofs.NeighbourLemmas.{neighbours_of_remove_high}
-- an edge that leaves keeps the neighbours of any third vertex as they were
pub use Rattle.kc_graph.proofs.NeighbourLemmas.{neighbours_of_remove_other}
