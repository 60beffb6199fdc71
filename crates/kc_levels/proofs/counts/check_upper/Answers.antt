use Rattle.std.proofs.Common.{◌<◌, ◌≡◌, arith, ap, ◌∙◌}
use Rattle.std.proofs.lemmas.Bool.{leb-false, OnFalse_from}
use Rattle.kc_levels.specs.Thresholds.{high, group_of}
use Rattle.kc_levels.proofs.Raising.{below_top}
use Rattle.kc_levels.proofs.counts.check_upper.Goals as goal

pub returns-clause-can_rise : goal.returns-clause-can_rise
returns-clause-can_rise c =
    let p = c.args.th.now.profile in
    let n = c.args.th.now.vertices in
    OnFalse_from _ _ (λ none.
    let bound : c.high.result ≡ high p (group_of p n c.get-level.result) = c.high.ensures.value ∙ ap (high p) c.group.ensures.value in
    let breach : c.high.result < c.at_least.result = leb-false c.at_least.result c.high.result none in
    let risen = below_top p n c.get-level.result c.at_least.result (omega (arith, c.requires.within.capped, c.get-level.ensures)) (omega (arith, c.at_least.ensures.few, c.requires.within.scale)) (omega arith) in
    omega (arith, risen, c.get-level.ensures))
