use Rattle.std.proofs.Common.{arith}
use Rattle.std.proofs.lemmas.Bool.Decides.{nat_tests}
use Rattle.kc_graph.proofs.lemmas.Changes.{vertices-without_edges}
use Rattle.kc_graph.proofs.lemmas.Counts.{count_below-le}
use Rattle.kc_levels.proofs.lemmas.Moves.{length-moves_between}
use Rattle.kc_delete.proofs.rounds.delete_rounds.Goals as goal

pub overflow_cast-result : goal.overflow_cast-result
overflow_cast-result g c = grind (arith, nat_tests, vertices-without_edges, length-moves_between, count_below-le, c.in_ok-moves.ensures.graph, c.in_ok-moves.ensures.moves, c.len.ensures, c.graph.ensures, c.vertices-n.ensures.small, c.vertices-n.ensures.count)

pub returns-clause-moves : goal.returns-clause-moves
returns-clause-moves g c = grind (arith, nat_tests, length-moves_between, c.len.ensures, c.in_ok-moves.ensures.moves)
