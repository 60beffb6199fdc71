use Rattle.kcore.proofs.Texts as law
use Rattle.kcore.proofs.laws.input_has_one_history.Goals as goal

pub returns : goal.returns
returns c = law.input_has_one_history
