use Rattle.kc_text.proofs.NumberLines.{begins_front, number_line, no_front, no_numbers}
use Rattle.kc_text.proofs.number_line.number_line.Goals as goal

pub returns-in_err-sign-clause-none : goal.returns-in_err-sign-clause-none
returns-in_err-sign-clause-none c = rw c.from_residual.ensures (no_front _ c.in_err-sign.ensures)

pub returns-in_err-first-clause-none : goal.returns-in_err-first-clause-none
returns-in_err-first-clause-none c = rw c.from_residual-in_err-first.ensures (no_numbers _ c.in_ok-sign.sign c.in_ok-sign.start c.in_ok-sign.ensures c.in_err-first.ensures.none)

pub numbers_to-requires : goal.numbers_to-requires
numbers_to-requires c = (begins_front _ c.in_ok-sign.sign c.in_ok-sign.start c.in_ok-sign.ensures).within

pub returns-clause-line : goal.returns-clause-line
returns-clause-line c = number_line _ _ _ _ _ _ c.in_ok-sign.ensures c.in_ok-first.ensures.numbers
