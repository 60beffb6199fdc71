use Rattle.std.proofs.Common.{◌≡◌, ◌∙◌, arith, ap}
use Rattle.kc_graph.specs.KeptRows.{edges_of}
use Rattle.kc_graph.proofs.KeptLemmas.{kept_empty}
use Rattle.kc_graph.proofs.RowLemmas.{edges_of_empty}
use Rattle.kc_graph.proofs.graphs.Graph.new.Goals as goal

pub invariant_of-result : goal.invariant_of-result
invariant_of-result c =
    let whole : c.loop.counter ≡ c.args.n = omega arith in
    rw (c.loop.invariant, whole) (kept_empty c.args.n c.requires.positive c.requires.small)

pub returns : goal.returns
returns c =
    ap (λ es. record { vertices = c.args.n; edges = es }) (ap (edges_of 0) c.loop.invariant ∙ edges_of_empty 0 c.loop.counter)
