use Rattle.kcore.proofs.OrientTexts as law
use Rattle.kcore.proofs.laws.input_has_one_orient_text.Goals as goal

pub returns : goal.returns
returns c = law.input_has_one_orient_text
