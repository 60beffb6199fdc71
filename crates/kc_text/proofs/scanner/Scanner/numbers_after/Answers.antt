use Rattle.std.proofs.Common.{subst}
use Rattle.kc_text.specs.Lines.{without_cr}
use Rattle.kc_text.specs.NumberLines.{IsNoNamedLine}
use Rattle.kc_text.proofs.NumberLines.{none_weaker}
use Rattle.kc_text.proofs.scanner.Scanner.numbers_after.Goals as goal

pub returns-clause-none : goal.returns-clause-none
returns-clause-none c = none_weaker c.numbers_after.result (λ h len w.
    let e = c.ahead.ensures.ends len w in
    subst (λ t. IsNoNamedLine (without_cr t) c.args.name.now) (c.ahead.ensures.text len e) (h len e)) c.numbers_after.ensures.none
