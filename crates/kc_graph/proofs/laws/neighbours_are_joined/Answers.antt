use Rattle.kc_graph.proofs.NeighbourLemmas.{has_number-neighbours_of, count_by-neighbours_of}
use Rattle.kc_graph.proofs.laws.neighbours_are_joined.Goals as goal

pub returns : goal.returns
returns c = record {
  has = has_number-neighbours_of;
  count = λ g v p graph. count_by-neighbours_of g.vertices v p g.edges graph;
}
