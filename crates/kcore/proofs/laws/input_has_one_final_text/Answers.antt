use Rattle.kcore.proofs.FinalTexts as law
use Rattle.kcore.proofs.laws.input_has_one_final_text.Goals as goal

pub returns : goal.returns
returns c = law.input_has_one_final_text
