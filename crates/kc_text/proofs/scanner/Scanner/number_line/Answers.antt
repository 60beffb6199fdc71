use Rattle.std.proofs.Common.{subst}
use Rattle.kc_text.specs.Lines.{without_cr}
use Rattle.kc_text.specs.NumberLines.{IsNoNumberLine}
use Rattle.kc_text.proofs.NumberLines.{none_weaker}
use Rattle.kc_text.proofs.scanner.Scanner.number_line.Goals as goal

pub returns-clause-none : goal.returns-clause-none
returns-clause-none c = none_weaker c.number_line.result (λ h len w.
    let e = c.ahead.ensures.ends len w in
    subst (λ t. IsNoNumberLine (without_cr t)) (c.ahead.ensures.text len e) (h len e)) c.number_line.ensures.none
