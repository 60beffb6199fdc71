use Rattle.std.proofs.Common.{◌∙◌, sym, arith}
use Rattle.std.proofs.lemmas.Grind.{common_steps}
use Rattle.kc_text.proofs.Giving.{told_line, told_same, opened, decided_line, gives_again}
use Rattle.kc_text.proofs.scanner.Scanner.next_line.Goals as goal

pub returns-in-Ok-Some-clause-line : goal.returns-in-Ok-Some-clause-line
returns-in-Ok-Some-clause-line g c =
    let h = rw c.in-Ok-Some.field-0-is at c.in-Ok-Some.ensures.line in
    sym c.loop-line.invariant.lines ∙ told_line _ _ _ _ h

pub returns-in-Ok-Some-clause-decided : goal.returns-in-Ok-Some-clause-decided
returns-in-Ok-Some-clause-decided g c = λ d bs.
    let h = rw c.in-Ok-Some.field-0-is at c.in-Ok-Some.ensures.line in
    decided_line _ _ _ _ (c.loop-line.invariant.unread d).1 h bs

pub returns-in-Ok-Some-clause-again : goal.returns-in-Ok-Some-clause-again
returns-in-Ok-Some-clause-again g c = λ l bs.
    let h = rw c.in-Ok-Some.field-0-is at c.in-Ok-Some.ensures.line in
    gives_again _ _ _ h l bs

pub returns-then-is_err-clause-err : goal.returns-then-is_err-clause-err
returns-then-is_err-clause-err g c =
    let h = rw c.in-Ok-None.field-0-is at c.in-Ok-None.ensures.none in
    c.fill.ensures.same ∙ sym (told_same _ _ _ h) ∙ c.loop-line.invariant.lines

pub loop-line-preserved : goal.loop-line-preserved
loop-line-preserved g c =
    let h = rw c.in-Ok-None.field-0-is at c.in-Ok-None.ensures.none in
    record {
      lines = c.fill.ensures.same ∙ sym (told_same _ _ _ h) ∙ c.loop-line.invariant.lines;
      budget = c.fill.ensures.budget ∙ h.budget ∙ c.loop-line.invariant.budget;
      unread = λ d. absurd (opened _ _ d h.open_before (c.loop-line.invariant.unread d).1);
      faults = grind (arith, common_steps, c.fill.ensures.quiet, c.is_err.ensures, c.if-is_err.false, c.loop-line.invariant.faults);
    }
