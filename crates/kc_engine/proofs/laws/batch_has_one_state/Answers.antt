use Rattle.kc_engine.proofs.BatchLemmas as law
use Rattle.kc_engine.proofs.laws.batch_has_one_state.Goals as goal

pub returns : goal.returns
returns c = law.batch_has_one_state
