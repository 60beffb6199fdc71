use Rattle.std.proofs.Common.{◌≡◌, false, arith}
use Rattle.std.proofs.lemmas.List.Elements.{All-from_get_or}
use Rattle.kc_graph.specs.Shape.{Pair, has_edge}
use Rattle.test_support.proofs.graphs.are_absent.Goals as goal

pub returns : goal.returns
returns c = All-from_get_or (λ (e : Pair). has_edge e c.args.graph.now.edges ≡ false) c.args.edges.now (0, 0) (λ i lt. c.loop-e.invariant i (omega (arith, lt, c.loop-e-test.false)))
