use Rattle.std.proofs.Common.{◌≡◌, [], ◌∙◌, ap, length, arith}
use Rattle.std.proofs.lemmas.List.{nil_from_length}
use Rattle.std.proofs.lemmas.Bool.Decides.{nat_tests}
use Rattle.kc_text.proofs.Giving.{filled, at_end}
use Rattle.kc_text.proofs.scanner.Scanner.fill.Goals as goal

pub returns-then-is_empty-clause-same : goal.returns-then-is_empty-clause-same
returns-then-is_empty-clause-same g c =
    let f = c.in_ok-fill.ensures in
    let n : c.fill.new.self ≡ [] = nil_from_length _ (let e = c.if-is_empty.ensures in let r = ap length c.ready.ensures in grind (arith, nat_tests, e, r)) in
    rw (← c.self.view_is) (at_end _ _ _ _ _ _ _ _ _ (ap (λ r. r.ready) c.self.view_is ∙ c.requires.ready) (ap (λ r. r.ended) c.self.view_is ∙ c.requires.ended) n f.given (f.end n))

pub returns-else-is_empty-clause-same : goal.returns-else-is_empty-clause-same
returns-else-is_empty-clause-same g c =
    rw (← c.self.view_is) (filled _ _ _ _ _ _ _ _ _ (ap (λ r. r.ready) c.self.view_is ∙ c.requires.ready) (ap (λ r. r.ended) c.self.view_is ∙ c.requires.ended) c.in_ok-fill.ensures.given)
