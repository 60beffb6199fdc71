use Rattle.kc_graph.proofs.ChangeLemmas.{is_graph-with_edges}
use Rattle.kc_graph.proofs.laws.insertions_keep_graph.Goals as goal

pub returns : goal.returns
returns c = is_graph-with_edges
