use Rattle.kc_text.proofs.NumberLines.{none_weaker}
use Rattle.kc_text.proofs.reader.LineReader.numbers_after.Goals as goal

pub returns-clause-none : goal.returns-clause-none
returns-clause-none c = none_weaker c.numbers_after.result (λ h len w.
    let v = rw (← c.self.view_is) at w in
    rw (← c.self.view_is) (h len v.scan)) c.numbers_after.ensures.none
