use Rattle.kc_engine.proofs.PhaseLaw as law
use Rattle.kc_engine.proofs.laws.phases_lead_over.Goals as goal

pub returns-clause-over : goal.returns-clause-over
returns-clause-over c = law.phases_lead_over

pub returns-clause-on : goal.returns-clause-on
returns-clause-on c = law.phases_lead_on
