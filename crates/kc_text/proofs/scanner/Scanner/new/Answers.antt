use Rattle.std.proofs.Common.{refl}
use Rattle.kc_text.proofs.Giving.{told_fresh}
use Rattle.kc_text.proofs.scanner.Scanner.new.Goals as goal

pub returns-clause-lines : goal.returns-clause-lines
returns-clause-lines c = λ left. rw c.new-2.ensures (told_fresh _ _ _ _ left refl c.in_ok-new.ensures)
