use Rattle.std.proofs.Common.{◌∙◌, sym, arith}
use Rattle.kc_text.proofs.NumberLines.{no_first, no_more, no_blank, no_second, no_close}
use Rattle.kc_text.proofs.number_line.any_numbers.Goals as goal

pub returns-in_err-first-clause-none : goal.returns-in_err-first-clause-none
returns-in_err-first-clause-none c = rw c.from_residual.ensures (no_first _ _ c.in_err-first.ensures.none)

pub returns-then-middle-bytes-clause-none : goal.returns-then-middle-bytes-clause-none
returns-then-middle-bytes-clause-none c = no_more _ _ _ c.in_ok-first.middle c.in_ok-first.ensures.digits c.in_ok-first.ensures.stop (omega (arith, c.if-middle-bytes.true))

pub returns-then-not-parts_words-clause-none : goal.returns-then-not-parts_words-clause-none
returns-then-not-parts_words-clause-none c = no_blank _ _ _ c.in_ok-first.middle c.in_ok-first.ensures.digits c.in_ok-first.ensures.stop (sym c.parts_words.ensures ∙ c.if-not-parts_words.true)

pub returns-in_err-second-clause-none : goal.returns-in_err-second-clause-none
returns-in_err-second-clause-none c = rw c.from_residual-in_err-second.ensures (no_second _ _ _ c.in_ok-first.middle c.in_ok-first.ensures.digits c.in_ok-first.ensures.stop c.in_err-second.ensures.none)

pub returns-in_err-len-clause-none : goal.returns-in_err-len-clause-none
returns-in_err-len-clause-none c = rw c.from_residual-in_err-len.ensures
    (no_close _ _ _ c.in_ok-first.middle _ c.in_ok-second.end c.in_ok-first.ensures.digits c.in_ok-first.ensures.stop c.in_ok-second.ensures.digits c.in_ok-second.ensures.stop c.in_err-len.ensures.none)
