use Rattle.kc_text.proofs.NumberLines.{none_weaker}
use Rattle.kc_text.proofs.reader.LineReader.number_line.Goals as goal

pub returns-clause-none : goal.returns-clause-none
returns-clause-none c = none_weaker c.number_line.result (λ h len w.
    let v = rw (← c.self.view_is) at w in
    rw (← c.self.view_is) (h len v.scan)) c.number_line.ensures.none
