use Rattle.kc_engine.proofs.BatchLemmas as law
use Rattle.kc_engine.proofs.laws.start_is_sound.Goals as goal

pub returns : goal.returns
returns c = law.start_is_sound
