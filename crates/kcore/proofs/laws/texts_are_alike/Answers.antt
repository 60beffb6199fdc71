use Rattle.kcore.proofs.Texts as law
use Rattle.kcore.proofs.laws.texts_are_alike.Goals as goal

pub returns : goal.returns
returns c = law.texts_are_alike
