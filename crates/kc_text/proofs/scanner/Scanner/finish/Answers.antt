use Rattle.std.proofs.Common.{◌≡◌, refl, ap, ◌∙◌, arith, true}
use Rattle.std.proofs.lemmas.List.{nil_from_length, append-nil}
use Rattle.kc_text.proofs.Giving.{gives_end, gives_last}
use Rattle.kc_text.proofs.scanner.Scanner.finish.Goals as goal

pub returns-then-taken-eq0-clause-line : goal.returns-then-taken-eq0-clause-line
returns-then-taken-eq0-clause-line c =
    let e : c.self.inside.ended ≡ true = ap (λ r. r.ended) c.self.view_is ∙ c.requires.ended in
    rw (← c.self.view_is, c.number.ensures) (gives_end _ _ _ _ _ _ (nil_from_length _ (omega (arith, c.taken.ensures, c.if-taken-eq0.true))) (c.self.invariant.ended e) e)

pub returns-clause-line : goal.returns-clause-line
returns-clause-line c =
    let e : c.self.inside.ended ≡ true = ap (λ r. r.ended) c.self.view_is ∙ c.requires.ended in
    rw (← c.self.view_is, c.in_ok-line.ensures.line, c.in_ok-line.ensures.next, append-nil)
    (gives_last _ _ _ _ _ _ _ _ (omega (arith, c.taken.ensures, c.if-taken-eq0.false)) (c.self.invariant.ended e) e refl refl)
