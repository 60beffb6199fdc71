use Rattle.std.proofs.Common.{◌∙◌, List, ap}
use Rattle.kc_graph.specs.Shape.{Pair}
use Rattle.kc_graph.specs.KeptRows.{edges_of}
use Rattle.kc_graph.proofs.KeptLemmas.{kept_parted, edges_of-parted}
use Rattle.kc_graph.proofs.graphs.Graph.remove.Goals as goal

pub invariant_of-self : goal.invariant_of-self
invariant_of-self c =
    let below = rw (← c.self.view_is, ← c.e.view_is) at c.requires.below in
    let present = rw (← c.self.view_is, ← c.e.view_is) at c.requires.present in
    rw c.part.ensures (kept_parted _ _ (c.e.inside.a, c.e.inside.b) _ c.self.invariant c.e.invariant below present)

pub returns : goal.returns
returns c =
    let below = rw (← c.self.view_is, ← c.e.view_is) at c.requires.below in
    rw (← c.self.view_is, ← c.e.view_is)
    (ap (λ (es : List Pair). record { vertices = c.self.inside.n; edges = es })
    (ap (edges_of 0) c.part.ensures ∙ edges_of-parted _ _ (c.e.inside.a, c.e.inside.b) _ c.self.invariant c.e.invariant below))
