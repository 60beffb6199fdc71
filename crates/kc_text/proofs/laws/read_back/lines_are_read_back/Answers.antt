use Rattle.kc_text.proofs.PrintedText.{lines_back}
use Rattle.kc_text.proofs.laws.read_back.lines_are_read_back.Goals as goal

pub returns : goal.returns
returns c = lines_back
