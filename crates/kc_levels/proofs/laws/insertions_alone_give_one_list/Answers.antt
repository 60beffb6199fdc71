use Rattle.kc_levels.proofs.InsertionLaw as law
use Rattle.kc_levels.proofs.laws.insertions_alone_give_one_list.Goals as goal

pub returns : goal.returns
returns c = law.insertions_alone_give_one_list
