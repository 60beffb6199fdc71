use Rattle.kc_graph.proofs.ChangeLemmas.{is_graph-without_edges}
use Rattle.kc_graph.proofs.laws.removals_keep_graph.Goals as goal

pub returns : goal.returns
returns c = is_graph-without_edges
