use Rattle.kc_levels.proofs.RaisedLaw as law
use Rattle.kc_levels.proofs.laws.raised_is_one_list.Goals as goal

pub returns-clause-one : goal.returns-clause-one
returns-clause-one c = law.raised_is_one_list

pub returns-clause-top : goal.returns-clause-top
returns-clause-top c = law.top_is_raisable

pub returns-clause-lesser : goal.returns-clause-lesser
returns-clause-lesser c = law.lesser_is_raisable
