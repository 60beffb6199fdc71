use Rattle.std.proofs.Common.{refl, ap, sym, ◌∙◌, arith}
use Rattle.kc_levels.specs.Thresholds.{lo, lo_after}
use Rattle.kc_levels.proofs.Sequences.{lo-at}
use Rattle.kc_levels.proofs.thresholds.Thresholds.lo.Goals as goal

pub returns-in-0-clause-value : goal.returns-in-0-clause-value
unfolding lo
returns-in-0-clause-value c = rw c.in-0.is refl

pub returns-in-1-clause-value : goal.returns-in-1-clause-value
unfolding lo
returns-in-1-clause-value c = rw c.in-1.is refl

pub returns-in_default-clause-value : goal.returns-in_default-clause-value
returns-in_default-clause-value c =
    let here = rw (← c.self.view_is) at c.low.ensures.value in
    rw (← c.self.view_is) (c.lo_after.ensures.value ∙ ap (lo_after c.self.inside.profile) here ∙ sym (lo-at c.self.inside.profile c.args.j (omega arith)))
