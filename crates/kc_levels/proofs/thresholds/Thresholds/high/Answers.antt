use Rattle.std.proofs.Common.{refl, ap, sym, ◌∙◌, arith}
use Rattle.kc_levels.specs.Thresholds.{high, high_over}
use Rattle.kc_levels.proofs.ProfileFacts.{high_over-near}
use Rattle.kc_levels.proofs.Sequences.{high-at}
use Rattle.kc_levels.proofs.thresholds.Thresholds.high.Goals as goal

pub returns-then-i-eq0-clause-value : goal.returns-then-i-eq0-clause-value
unfolding high
returns-then-i-eq0-clause-value c = rw c.if-i-eq0.true refl

pub returns-else-i-eq0-clause-value : goal.returns-else-i-eq0-clause-value
returns-else-i-eq0-clause-value c =
    let here = high-at c.self.inside.profile c.args.i (omega arith) in
    rw (← c.self.view_is) (c.high_over.ensures ∙ ap (high_over c.self.inside.profile) (rw (← c.self.view_is) at c.low.ensures.value) ∙ sym here)

pub returns-else-i-eq0-clause-small : goal.returns-else-i-eq0-clause-small
returns-else-i-eq0-clause-small c = omega (arith, c.high_over.ensures, high_over-near c.self.inside.profile c.low.result)
