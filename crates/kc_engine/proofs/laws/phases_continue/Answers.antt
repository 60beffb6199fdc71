use Rattle.kc_engine.proofs.ShowLaw as law
use Rattle.kc_engine.proofs.laws.phases_continue.Goals as goal

pub returns-clause-continues : goal.returns-clause-continues
returns-clause-continues c = law.phases_continue

pub returns-clause-abreast : goal.returns-clause-abreast
returns-clause-abreast c = law.shown_is_abreast
