use Rattle.std.proofs.Common.{◌∙◌, refl}
use Rattle.kc_text.proofs.Holding.{told_scan}
use Rattle.kc_text.proofs.reader.LineReader.new.Goals as goal

pub returns-clause-lines : goal.returns-clause-lines
returns-clause-lines c = λ left. told_scan _ _ _ left refl refl ∙ c.in_ok-new.ensures.lines left
