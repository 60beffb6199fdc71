use Rattle.kc_levels.proofs.LoweredLaw as law
use Rattle.kc_levels.proofs.laws.lowered_is_one_list.Goals as goal

pub returns-clause-one : goal.returns-clause-one
returns-clause-one c = law.lowered_is_one_list

pub returns-clause-zeros : goal.returns-clause-zeros
returns-clause-zeros c = law.zeros_are_lowerable

pub returns-clause-greater : goal.returns-clause-greater
returns-clause-greater c = law.greater_is_lowerable
