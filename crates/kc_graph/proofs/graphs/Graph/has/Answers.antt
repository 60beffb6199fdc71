use Rattle.std.proofs.Common.{◌∙◌, [], arith, ap}
use Rattle.std.proofs.lemmas.List.{get_or_read}
use Rattle.kc_graph.specs.Numbers.{has_number}
use Rattle.kc_graph.proofs.KeptLemmas.{has_number-row}
use Rattle.kc_graph.proofs.graphs.Graph.has.Goals as goal

pub returns : goal.returns
returns c =
    let kept = c.self.invariant in
    let within = rw (← c.self.view_is, ← c.e.view_is) at c.requires in
    let row = get_or_read _ c.e.inside.a _ (omega (arith, kept.sized, within, c.e.invariant)) c.index.ensures [] in
    rw (← c.self.view_is, ← c.e.view_is)
    (c.has.ensures ∙ ap (has_number c.e.inside.b) row ∙ has_number-row _ _ (c.e.inside.a, c.e.inside.b) _ kept c.e.invariant within)
