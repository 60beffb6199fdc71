use Rattle.kc_levels.proofs.BothKept as law
use Rattle.kc_levels.proofs.laws.phases_keep_both.Goals as goal

pub returns-clause-insertion : goal.returns-clause-insertion
returns-clause-insertion c = law.insertion_keeps_both

pub returns-clause-deletion : goal.returns-clause-deletion
returns-clause-deletion c = law.deletion_keeps_both
