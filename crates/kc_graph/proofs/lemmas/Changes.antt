-- What other crates may cite of edges that come into a graph, or leave it, one after another.

-- ascending edges that are not there may come in
pub use Rattle.kc_graph.proofs.ChangeLemmas.{can_add_ascending}
-- ascending edges that are there may be taken out
pub use Rattle.kc_graph.proofs.ChangeLemmas.{can_remove_ascending}
-- ascending edges have their lesser vertex first, and their vertices are below n
pub use Rattle.kc_graph.proofs.ChangeLemmas.{inside_from_ascending}
-- after edges came in, an edge is there where it was there or is among them
pub use Rattle.kc_graph.proofs.ChangeLemmas.{has_edge-with_edges}
-- after edges left, an edge is there where it was there and isn't among them
pub use Rattle.kc_graph.proofs.ChangeLemmas.{has_edge-without_edges}
-- a graph into which an edge between two of its vertices came is a graph
pub use Rattle.kc_graph.proofs.ChangeLemmas.{is_graph-with_edge}
-- a graph that an edge left is a graph
pub use Rattle.kc_graph.proofs.ChangeLemmas.{is_graph-without_edge}
-- a graph into which edges between its vertices came is a graph
pub use Rattle.kc_graph.proofs.ChangeLemmas.{is_graph-with_edges as insertions_keep_graph}
-- a graph that edges left is a graph
pub use Rattle.kc_graph.proofs.ChangeLemmas.{is_graph-without_edges as removals_keep_graph}
-- edges that may come in are counted on to those of the graph
pub use Rattle.kc_graph.proofs.ChangeLemmas.{length-with_edges}
-- edges that follow all others come in after them
pub use Rattle.kc_graph.proofs.ChangeLemmas.{added_behind}
-- edges that come in leave the number of vertices as it was
pub use Rattle.kc_graph.proofs.ChangeLemmas.{vertices-with_edges}
-- edges that leave keep the number of vertices as it was
pub use Rattle.kc_graph.proofs.ChangeLemmas.{vertices-without_edges}
