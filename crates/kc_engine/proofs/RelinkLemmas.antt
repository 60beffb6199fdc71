-- Edges that leave a graph and come in again, and the phases in which edges leave or come in.
use Rattle.std.proofs.Common.{ℕ, ◌≡◌, Bool, true, ◌||◌, ◌&&◌, List, length, arith}
use Rattle.std.specs.Prelude.{not}
use Rattle.std.proofs.lemmas.Bool.Decides.{nat_tests}
use Rattle.kc_graph.specs.Shape.{GraphShape, Pair, EdgesFrom, IsGraph, with_edges, without_edges}
use Rattle.kc_graph.specs.Changes.{AllPresent}
use Rattle.kc_graph.proofs.lemmas.Edges.{graph_is_its_edges}
use Rattle.kc_graph.proofs.lemmas.Changes.{vertices-with_edges, vertices-without_edges, has_edge-with_edges, has_edge-without_edges, insertions_keep_graph, removals_keep_graph, inside_from_ascending}
use Rattle.kc_groups.specs.Laws.{IsPhase}
use Rattle.kc_groups.proofs.lemmas.Phases.{present_in, present_after}

out_and_in : (a b : Bool) → (a ≡ true → b ≡ true) → (a || (not a && b)) ≡ b
out_and_in a b h = grind (arith, nat_tests)

-- the graph again where edges left and come in
pub linked_again : (g : GraphShape) (es : List Pair) → IsGraph g → EdgesFrom g.vertices 0 0 es → AllPresent g es → with_edges (without_edges g es) es ≡ g
linked_again g es graph up present = grind (arith, nat_tests, vertices-without_edges, inside_from_ascending, graph_is_its_edges, insertions_keep_graph, removals_keep_graph, vertices-with_edges, has_edge-with_edges, has_edge-without_edges, out_and_in, present_in)

-- the phase in which edges leave
pub deletion_is_phase : (g : GraphShape) (es : List Pair) (x y : List ℕ) → IsGraph g → length x ≡ g.vertices → length y ≡ g.vertices → EdgesFrom g.vertices 0 0 es → AllPresent g es → IsPhase es x y g
deletion_is_phase g es x y graph before after up present = record { graph = graph; before = before; after = after; ascending = up; present = present }

-- the phase in which edges come in
pub insertion_is_phase : (g : GraphShape) (es : List Pair) (x y : List ℕ) → IsGraph g → length x ≡ g.vertices → length y ≡ g.vertices → EdgesFrom g.vertices 0 0 es → IsPhase es x y (with_edges g es)
insertion_is_phase g es x y graph before after up = grind (arith, nat_tests, vertices-with_edges, insertions_keep_graph, inside_from_ascending, present_after)
