use Rattle.std.proofs.Common.{◌∙◌, sym, ap}
use Rattle.std.specs.Option.{option_map}
use Rattle.std.proofs.lemmas.Result.{err_from_is_err_and}
use Rattle.kc_text.specs.Reading.{onto, is_decided}
use Rattle.kc_text.proofs.Holding.{gives_held, held_same, held_stays, gives_last, onto_last, scan_comes, told, told_same, told_scan, decides_scan}
use Rattle.kc_text.proofs.reader.LineReader.next_line.Goals as goal

pub returns-in-Some-clause-line : goal.returns-in-Some-clause-line
returns-in-Some-clause-line g c = rw (← c.self.view_is)
    (told _ _ _ _ (gives_held _ _ _ _ _ _ (sym c.take.ensures.value ∙ c.in-Some.is) c.last_after-self-inside.ensures c.take.ensures.after))

pub returns-in-Some-clause-decided : goal.returns-in-Some-clause-decided
returns-in-Some-clause-decided g c = λ d bs. rw (← c.self.view_is)
    (gives_held _ _ _ _ _ _ (sym c.take.ensures.value ∙ c.in-Some.is) c.last_after-self-inside.ensures c.take.ensures.after bs)

pub returns-in-Some-clause-last : goal.returns-in-Some-clause-last
returns-in-Some-clause-last g c = λ l. rw (← c.self.view_is)
    (told_same _ _ _ (held_same _ _ _ _ _ _ (sym c.take.ensures.value ∙ c.in-Some.is) c.last_after-self-inside.ensures c.take.ensures.after l))

pub returns-in-Some-clause-again : goal.returns-in-Some-clause-again
returns-in-Some-clause-again g c = λ l. held_stays _ _ _ _ _ c.last_after-self-inside.ensures c.take.ensures.after l

pub returns-in-Some-last-clause-line : goal.returns-in-Some-last-clause-line
returns-in-Some-last-clause-line g c = rw (← c.self.view_is)
    (told _ _ _ _ (λ bs. gives_last _ _ _ c.in-Some-last.last _ c.in-Some-last.is (sym c.take.ensures.value ∙ c.in_default.is) c.line_of_last.ensures bs ∙ sym (onto_last c.in-Some-last.last _ _ c.line_of_last.ensures)))

pub returns-in-Some-last-clause-decided : goal.returns-in-Some-last-clause-decided
returns-in-Some-last-clause-decided g c = λ d bs. rw (← c.self.view_is)
    (gives_last _ _ _ c.in-Some-last.last _ c.in-Some-last.is (sym c.take.ensures.value ∙ c.in_default.is) c.line_of_last.ensures bs ∙ sym (onto_last c.in-Some-last.last _ _ c.line_of_last.ensures))

pub returns-in-Some-last-clause-again : goal.returns-in-Some-last-clause-again
returns-in-Some-last-clause-again g c = λ l. gives_last _ _ _ c.in-Some-last.last _ c.in-Some-last.is c.take.ensures.after c.line_of_last.ensures

pub returns-in_ok-line-in-None-clause-line : goal.returns-in_ok-line-in-None-clause-line
returns-in_ok-line-in-None-clause-line g c = rw (← c.self.view_is)
    (told_scan _ _ _ _ c.in-None.is (sym c.take.ensures.value ∙ c.in_default.is) ∙ c.in_ok-line-in-None.ensures.line
    ∙ ap (option_map (onto c.in_ok-line-in-None.line)) (sym (told_scan _ _ _ _ c.in-None.is c.take.ensures.after)))

pub returns-in_ok-line-in-None-clause-decided : goal.returns-in_ok-line-in-None-clause-decided
returns-in_ok-line-in-None-clause-decided g c = λ d bs.
    let none = sym c.take.ensures.value ∙ c.in_default.is in
    let same = c.in_ok-line-in-None.ensures.decided (decides_scan c.self.inside.scanner _ _ c.in-None.is none (ap is_decided c.self.view_is ∙ d)) bs in
    rw (← c.self.view_is) (scan_comes _ _ _ c.in-None.is none bs ∙ same ∙ ap (onto c.in_ok-line-in-None.line) (sym (scan_comes _ _ _ c.in-None.is c.take.ensures.after bs)))

pub returns-in_ok-line-in-None-clause-last : goal.returns-in_ok-line-in-None-clause-last
returns-in_ok-line-in-None-clause-last g c = λ l. rw (← c.self.view_is)
    (told_scan _ _ _ _ c.in-None.is c.take.ensures.after ∙ c.in_ok-line-in-None.ensures.last l ∙ sym (told_scan _ _ _ _ c.in-None.is (sym c.take.ensures.value ∙ c.in_default.is)))

pub returns-in_ok-line-in-None-clause-again : goal.returns-in_ok-line-in-None-clause-again
returns-in_ok-line-in-None-clause-again g c = λ l bs. scan_comes _ _ _ c.in-None.is c.take.ensures.after bs ∙ c.in_ok-line-in-None.ensures.again l bs

pub returns-in_err-line-in-None-clause-err : goal.returns-in_err-line-in-None-clause-err
returns-in_err-line-in-None-clause-err g c =
    let p = err_from_is_err_and c.from_residual.result c.from_residual.ensures.1 in
    rw (p.1, ← c.self.view_is)
    (told_scan _ _ _ _ c.in-None.is c.take.ensures.after ∙ c.in_err-line-in-None.ensures.err ∙ sym (told_scan _ _ _ _ c.in-None.is (sym c.take.ensures.value ∙ c.in_default.is)))
