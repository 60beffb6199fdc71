use Rattle.std.proofs.Common.{arith}
use Rattle.std.proofs.lemmas.List.{length-replicate}
use Rattle.std.proofs.lemmas.Bool.Decides.{nat_tests}
use Rattle.kc_graph.proofs.lemmas.Changes.{vertices-without_edges, removals_keep_graph}
use Rattle.kc_delete.proofs.SettlingLemmas.{within_after, settling_first}
use Rattle.kc_delete.proofs.FallenLemmas.{none_marked}
use Rattle.kc_delete.proofs.rounds.delete_phase.Goals as goal

pub invariant_of-add_short_ends : goal.invariant_of-add_short_ends
invariant_of-add_short_ends g c = record { within = rw c.in_ok-unlink_all.ensures.ok (within_after c.args.th.now c.args.adj.now c.args.removed.now c.requires.within) }

pub add_short_ends-requires-clause-sized : goal.add_short_ends-requires-clause-sized
add_short_ends-requires-clause-sized g c = grind (arith, nat_tests, vertices-without_edges, length-replicate, c.requires.ready, c.in_ok-unlink_all.ensures.ok)

pub add_short_ends-requires-clause-ascending : goal.add_short_ends-requires-clause-ascending
add_short_ends-requires-clause-ascending g c = grind (arith, nat_tests, vertices-without_edges, c.in_ok-unlink_all.ensures.ok, c.requires.ascending)

pub lower_levels-requires-clause-graph : goal.lower_levels-requires-clause-graph
lower_levels-requires-clause-graph g c κs o = grind (arith, nat_tests, removals_keep_graph, c.in_ok-unlink_all.ensures.ok, c.graph.ensures, c.vertices-n.ensures.graph)

pub lower_levels-requires-clause-within : goal.lower_levels-requires-clause-within
lower_levels-requires-clause-within g c κs o = rw c.in_ok-unlink_all.ensures.ok (within_after c.args.th.now c.args.adj.now c.args.removed.now c.requires.within)

pub lower_levels-requires-clause-settling : goal.lower_levels-requires-clause-settling
lower_levels-requires-clause-settling g c κs o =
    let sized = rw (c.in_ok-unlink_all.ensures.ok, vertices-without_edges c.args.adj.now.graph c.args.removed.now) at c.in_ok-add_short_ends.ensures.sized in
    let looked = rw c.in_ok-unlink_all.ensures.ok at c.in_ok-add_short_ends.ensures.looked in
    rw c.in_ok-unlink_all.ensures.ok
    (settling_first c.args.th.now.profile c.args.adj.now.graph c.args.adj.now.levels c.add_short_ends.new.waiting c.args.removed.now c.levels-levels.ensures.sized sized c.requires.lower looked)

pub lower_levels-requires-clause-before : goal.lower_levels-requires-clause-before
lower_levels-requires-clause-before g c κs o = grind (arith, nat_tests, c.requires.ready, c.in_ok-unlink_all.ensures.ok)

pub take_moves-requires-clause-sized : goal.take_moves-requires-clause-sized
take_moves-requires-clause-sized g c = grind (arith, nat_tests, vertices-without_edges, c.in_ok-lower_levels.ensures.graph, c.in_ok-unlink_all.ensures.ok, c.in_ok-lower_levels.ensures.before, c.levels.ensures.value, c.levels.ensures.sized, c.levels-levels.ensures.sized)

pub returns-clause-moves : goal.returns-clause-moves
returns-clause-moves g c = grind (arith, nat_tests, vertices-without_edges, c.in_ok-lower_levels.ensures.graph, c.in_ok-unlink_all.ensures.ok, c.in_ok-lower_levels.ensures.before, c.in_ok-moves.ensures.moves, c.levels.ensures.value, c.levels-levels.ensures.sized)

pub returns-clause-ready : goal.returns-clause-ready
returns-clause-ready g c = grind (arith, nat_tests, none_marked, c.in_ok-moves.ensures.before, c.levels.ensures.value, c.in_ok-lower_levels.ensures.none_waits, c.in_ok-lower_levels.ensures.sized, c.in_ok-lower_levels.ensures.graph, c.in_ok-moves.ensures.nobody)
