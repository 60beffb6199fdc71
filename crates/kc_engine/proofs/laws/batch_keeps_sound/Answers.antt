use Rattle.kc_engine.proofs.BatchLemmas as law
use Rattle.kc_engine.proofs.laws.batch_keeps_sound.Goals as goal

pub returns-clause-sound : goal.returns-clause-sound
returns-clause-sound c = law.batch_keeps_sound

pub returns-clause-both : goal.returns-clause-both
returns-clause-both c = law.batch_keeps_both
