use Rattle.std.proofs.Common.{◌∙◌, List, arith, ap}
use Rattle.kc_graph.specs.Shape.{Pair}
use Rattle.kc_graph.specs.KeptRows.{edges_of}
use Rattle.kc_graph.proofs.KeptLemmas.{has_number-row, kept_joined, edges_of-joined}
use Rattle.kc_graph.proofs.graphs.Graph.insert.Goals as goal

pub join-requires-clause-apart : goal.join-requires-clause-apart
join-requires-clause-apart c =
    let below = rw (← c.self.view_is, ← c.e.view_is) at c.requires.below in
    let absent = rw (← c.self.view_is, ← c.e.view_is) at c.requires.absent in
    has_number-row _ _ (c.e.inside.a, c.e.inside.b) _ c.self.invariant c.e.invariant below ∙ absent

pub invariant_of-self-2 : goal.invariant_of-self-2
invariant_of-self-2 c =
    let below = rw (← c.self.view_is, ← c.e.view_is) at c.requires.below in
    let absent = rw (← c.self.view_is, ← c.e.view_is) at c.requires.absent in
    let room = rw (← c.self.view_is) at c.requires.room in
    rw c.in_ok-join.ensures.ok
    (kept_joined _ _ (c.e.inside.a, c.e.inside.b) _ c.self.invariant c.e.invariant below absent (omega (arith, room, c.self.invariant.counted)))

pub returns-clause-ok : goal.returns-clause-ok
returns-clause-ok c =
    let below = rw (← c.self.view_is, ← c.e.view_is) at c.requires.below in
    rw (← c.self.view_is, ← c.e.view_is)
    (ap (λ (es : List Pair). record { vertices = c.self.inside.n; edges = es })
    (ap (edges_of 0) c.in_ok-join.ensures.ok ∙ edges_of-joined _ _ (c.e.inside.a, c.e.inside.b) _ c.self.invariant c.e.invariant below))
