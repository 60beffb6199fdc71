use Rattle.kc_groups.proofs.PlanLaw as law
use Rattle.kc_groups.proofs.laws.plan_is_well_formed.Goals as goal

pub returns : goal.returns
returns c = law.plan_is_well_formed
