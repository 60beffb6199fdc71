use Rattle.std.proofs.Common.{◌∙◌, [], arith}
use Rattle.std.proofs.lemmas.List.{get_or_read}
use Rattle.kc_graph.proofs.NumberLemmas.{all_from_below}
use Rattle.kc_graph.proofs.NeighbourLemmas.{neighbours_below, neighbours_rise, fewer_neighbours}
use Rattle.kc_graph.proofs.graphs.Graph.neighbours.Goals as goal

pub returns-clause-ascending : goal.returns-clause-ascending
returns-clause-ascending c =
    let kept = c.self.invariant in
    let within = rw (← c.self.view_is) at c.requires in
    let row = get_or_read _ c.args.v _ (omega (arith, kept.sized, within)) c.index.ensures [] in
    rw (c.as_slice.ensures ∙ row ∙ kept.rows_are c.args.v within) (neighbours_rise _ c.args.v _ kept.rising)

pub returns-clause-below : goal.returns-clause-below
returns-clause-below c =
    let kept = c.self.invariant in
    let within = rw (← c.self.view_is) at c.requires in
    let row = get_or_read _ c.args.v _ (omega (arith, kept.sized, within)) c.index.ensures [] in
    rw (← c.self.view_is, c.as_slice.ensures ∙ row ∙ kept.rows_are c.args.v within) (all_from_below _ _ (neighbours_below _ 0 0 c.args.v _ kept.rising))

pub returns-clause-fewer : goal.returns-clause-fewer
returns-clause-fewer c =
    let kept = c.self.invariant in
    let within = rw (← c.self.view_is) at c.requires in
    let row = get_or_read _ c.args.v _ (omega (arith, kept.sized, within)) c.index.ensures [] in
    rw (← c.self.view_is, c.as_slice.ensures ∙ row ∙ kept.rows_are c.args.v within) (fewer_neighbours _ c.args.v _ kept.rising within)
