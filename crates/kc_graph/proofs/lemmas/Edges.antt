-- What other crates may cite of ascending lists of edges, and edges that come in.

-- a graph is its edges: graphs with as many vertices and the same edges are the same
pub use Rattle.kc_graph.proofs.EdgeLemmas.{same_graph as graph_is_its_edges}
-- an edge has its lesser vertex first, and its vertices are below n
pub use Rattle.kc_graph.proofs.EdgeLemmas.{edge_inside}
-- edges that the test of equality calls the same are the same
pub use Rattle.kc_graph.proofs.EdgeListLemmas.{edge_is}
-- an edge is among those that pass a test where it passes and is in the list
pub use Rattle.kc_graph.proofs.EdgeListLemmas.{has_edge-filter}
-- the edges of an ascending list that pass a test are ascending
pub use Rattle.kc_graph.proofs.EdgeListLemmas.{edges_from_filter}
-- in an ascending list, the edge that ends a beginning isn't before where the list begins
pub use Rattle.kc_graph.proofs.EdgeLemmas.{edges_from_at}
-- v shares an edge with w where w shares one with v
pub use Rattle.kc_graph.proofs.EdgeLemmas.{joined_comm}
-- two vertices, the lesser first, share an edge where the list has it
pub use Rattle.kc_graph.proofs.EdgeLemmas.{joined_in_order}
-- vertices that share an edge are below n
pub use Rattle.kc_graph.proofs.EdgeLemmas.{joined_inside}
-- no vertex shares an edge with itself
pub use Rattle.kc_graph.proofs.EdgeLemmas.{joined_itself}
