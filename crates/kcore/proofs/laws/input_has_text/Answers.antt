use Rattle.kcore.proofs.Texts as law
use Rattle.kcore.proofs.laws.input_has_text.Goals as goal

pub returns-clause-text : goal.returns-clause-text
returns-clause-text c = law.input_has_text

pub returns-clause-replies : goal.returns-clause-replies
returns-clause-replies c = law.replies_have_text
