use Rattle.kc_graph.proofs.SearchLemmas.{found}
use Rattle.kc_graph.proofs.rows.place_of.Goals as goal

pub returns : goal.returns
returns c = found _ _ _ c.requires c.binary_search.ensures.position
