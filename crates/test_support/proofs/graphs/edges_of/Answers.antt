use Rattle.std.proofs.Common.{[], subst}
use Rattle.std.proofs.lemmas.List.{append-nil}
use Rattle.kc_graph.specs.Shape.{EdgesFrom}
use Rattle.test_support.proofs.graphs.edges_of.Goals as goal

pub returns-clause-ascending : goal.returns-clause-ascending
returns-clause-ascending c = subst (λ es. EdgesFrom c.args.n 0 0 es) (append-nil c.loop-pair.edges.items) (c.loop-pair.invariant.1 [] tt)
