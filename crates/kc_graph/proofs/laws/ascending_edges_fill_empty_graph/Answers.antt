use Rattle.kc_graph.proofs.ChangeLemmas.{added_to_empty, can_add_to_empty}
use Rattle.kc_graph.proofs.laws.ascending_edges_fill_empty_graph.Goals as goal

pub returns : goal.returns
returns c = record { fill = added_to_empty; can_add = can_add_to_empty }
