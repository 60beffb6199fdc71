use Rattle.kcore.proofs.DenseTexts as law
use Rattle.kcore.proofs.laws.input_has_one_dense_text.Goals as goal

pub returns : goal.returns
returns c = law.input_has_one_dense_text
