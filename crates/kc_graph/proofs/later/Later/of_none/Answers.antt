use Rattle.kc_graph.proofs.LaterLemmas.{net_effect_none}
use Rattle.kc_graph.proofs.later.Later.of_none.Goals as goal

pub returns : goal.returns
returns c = λ edges. net_effect_none edges c.of_loops.result c.new.result c.of_loops.ensures c.new.ensures.pairs c.new.ensures.isolated
