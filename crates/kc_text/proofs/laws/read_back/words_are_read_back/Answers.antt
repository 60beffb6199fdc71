use Rattle.kc_text.proofs.PrintedText.{words_back}
use Rattle.kc_text.proofs.laws.read_back.words_are_read_back.Goals as goal

pub returns : goal.returns
returns c = words_back
