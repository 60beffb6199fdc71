use Rattle.kcore.proofs.LoadTexts as law
use Rattle.kcore.proofs.laws.input_has_one_load_text.Goals as goal

pub returns : goal.returns
returns c = law.input_has_one_load_text
