use Rattle.kc_engine.proofs.LeadLaw as law
use Rattle.kc_engine.proofs.laws.phases_lead_one_by_one.Goals as goal

pub returns : goal.returns
returns c = law.phases_lead_one_by_one
