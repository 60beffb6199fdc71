use Rattle.std.proofs.Common.{◌-◌, ◌<◌, arith}
use Rattle.std.proofs.lemmas.Bool.Decides.{nat_tests}
use Rattle.kc_levels.specs.Thresholds.{low, high}
use Rattle.kc_cert.proofs.Breaches.{count_is, bound_is, meets_upper, breaks_upper, meets_lower_at_zero, meets_lower, breaks_lower}
use Rattle.kc_cert.proofs.verdict.verdict_at.Goals as goal

pub returns-then-up-high : goal.returns-then-up-high
returns-then-up-high c = grind (arith, nat_tests, count_is, bound_is, breaks_upper, c.neighbours.ensures.value, c.as_slice.ensures, c.counts-up.ensures.up, c.requires.profile, c.requires.within.scale, c.group.ensures.value, c.high.ensures.value, c.get-level.ensures, c.if-up-high.true)

pub returns-then-level-eq0 : goal.returns-then-level-eq0
returns-then-level-eq0 c = grind (arith, nat_tests, count_is, bound_is, meets_upper, meets_lower_at_zero, c.neighbours.ensures.value, c.as_slice.ensures, c.counts-up.ensures.up, c.requires.profile, c.requires.within.scale, c.group.ensures.value, c.high.ensures.value, c.get-level.ensures, c.if-up-high.false, c.if-level-eq0.true)

pub returns-then-down-low : goal.returns-then-down-low
returns-then-down-low c = grind (arith, nat_tests, count_is, bound_is, breaks_lower, c.if-level-eq0.false, c.neighbours.ensures.value, c.as_slice.ensures, c.counts-up.ensures.down, c.requires.profile, c.requires.within.scale, c.group-2.ensures.value, c.low.ensures.value, c.get-level.ensures, c.if-down-low.true)

pub returns : goal.returns
returns c =
    let level = c.get-level.result in
    let some : 0 < level = grind (arith, c.if-level-eq0.false) in
    let up = count_is c.args.cert.now.graph c.args.cert.now.levels c.as_slice.result.now c.neighbours.result.now c.args.v level _ c.neighbours.ensures.value c.as_slice.ensures c.counts-up.ensures.up in
    let most = bound_is high _ _ _ _ level _ _ c.requires.profile c.requires.within.scale c.group.ensures.value c.high.ensures.value in
    let down = count_is c.args.cert.now.graph c.args.cert.now.levels c.as_slice.result.now c.neighbours.result.now c.args.v (level - 1) _ c.neighbours.ensures.value c.as_slice.ensures c.counts-up.ensures.down in
    let least = bound_is low _ _ _ _ (level - 1) _ _ c.requires.profile c.requires.within.scale c.group-2.ensures.value c.low.ensures.value in
    (meets_upper c.args.cert.now c.args.v level _ _ c.get-level.ensures up most c.if-up-high.false, meets_lower c.args.cert.now c.args.v level _ _ c.get-level.ensures some down least c.if-down-low.false)
