use Rattle.kc_cert.proofs.EdgeSteps.{first_ascend}
use Rattle.kc_cert.proofs.filling.add_edge.Goals as goal

pub let_in-requires-clause-ascending : goal.let_in-requires-clause-ascending
let_in-requires-clause-ascending c = first_ascend _ _ _ _ _ c.requires.ascending
