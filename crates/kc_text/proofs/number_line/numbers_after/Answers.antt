use Rattle.std.proofs.Common.{subst}
use Rattle.kc_text.specs.private.NumberLines.{HaveNoNumbers}
use Rattle.kc_text.proofs.NamedLines.{no_numbers}
use Rattle.kc_text.proofs.number_line.numbers_after.Goals as goal

pub returns-in_err-first-clause-none : goal.returns-in_err-first-clause-none
returns-in_err-first-clause-none c = rw c.from_residual-in_err-first.ensures (no_numbers _ _ (subst (HaveNoNumbers c.args.bytes.now) c.in_ok-start.ensures.start c.in_err-first.ensures.none))
