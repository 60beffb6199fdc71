use Rattle.kc_text.proofs.PrintedText.{numbers_back}
use Rattle.kc_text.proofs.laws.read_back.numbers_are_read_back.Goals as goal

pub returns : goal.returns
returns c = numbers_back
