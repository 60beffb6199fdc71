use Rattle.std.proofs.Common.{◌≡◌, ◌≤◌, length, take, refl, ap, arith, subst}
use Rattle.std.proofs.lemmas.List.{take_all}
use Rattle.kc_text.proofs.Passing.{HasNoEnd}
use Rattle.kc_text.proofs.Giving.{gives_line, gives_limit, absorbs}
use Rattle.kc_text.proofs.Ends.{first_end, no_end}
use Rattle.kc_text.proofs.scanner.Scanner.look.Goals as goal

pub returns-in-Some-clause-line : goal.returns-in-Some-clause-line
returns-in-Some-clause-line c =
    let w : c.min-within.result ≤ length c.self.inside.window = omega (arith, ap length c.ready-ready.ensures) in
    let f = first_end _ c.min-within.result _ w (rw c.ready-ready.ensures at c.in-Some.ensures) in
    let b = rw c.ready-ready.ensures at c.in_ok-line.ensures.line in
    rw (← c.self.view_is, b, c.in_ok-line.ensures.next) (gives_line _ _ _ _ _ _ c.min-within.result _ _ _ _ _ w (omega arith) f refl refl refl c.pass.ensures)

pub returns-then-within-ready-clause-line : goal.returns-then-within-ready-clause-line
returns-then-within-ready-clause-line c =
    let l = ap length c.ready-ready.ensures in
    let m : c.min-within.result ≡ c.self.inside.room = omega arith in
    let f : HasNoEnd (take c.min-within.result c.self.inside.window) = no_end _ c.min-within.result (rw c.ready-ready.ensures at c.in_default.ensures) in
    rw (← c.self.view_is, c.number.ensures) (gives_limit _ _ _ _ _ _ (omega arith) (subst (λ k. HasNoEnd (take k c.self.inside.window)) m f))

pub returns-clause-none : goal.returns-clause-none
returns-clause-none c =
    let l = ap length c.ready-ready.ensures in
    let m : c.min-within.result ≡ length c.self.inside.window = omega arith in
    let f : HasNoEnd (take c.min-within.result c.self.inside.window) = no_end _ c.min-within.result (rw c.ready-ready.ensures at c.in_default.ensures) in
    let all : HasNoEnd c.self.inside.window = subst HasNoEnd (take_all _ _ (omega arith)) f in
    let k = rw c.ready-ready.ensures at c.in_ok-take.ensures.ok in
    rw (← c.self.view_is, c.if-self.false, k.limit, k.number) (absorbs _ _ _ _ _ _ _ _ (omega arith) all k.long k.same (omega arith) c.clear.ensures)
