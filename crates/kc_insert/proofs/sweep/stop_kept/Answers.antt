use Rattle.std.proofs.Common.{ℕ, List, ap, subst, ◌∙◌, arith}
use Rattle.kc_insert.specs.Ranges.{Part}
use Rattle.kc_insert.proofs.Stopping.{AreStopped, stopped_range, stopped_was}
use Rattle.kc_insert.proofs.sweep.stop_kept.Goals as goal

pub stop_listed-requires-clause-small : goal.stop_listed-requires-clause-small
stop_listed-requires-clause-small c = λ v up. omega (arith, c.loop-range.invariant.level, c.requires.small v (stopped_was c.args.levels.now c.loop-range.levels _ c.loop-range.invariant v up))

pub loop-range-preserved : goal.loop-range-preserved
loop-range-preserved c =
    let listed = c.as_slice.ensures.value ∙ ap (λ (p : Part). p.began) (c.range.view_is ∙ c.range-item.is) in
    stopped_range c.args.levels.now c.loop-range.levels c.stop_listed.new.levels c.args.items.now c.loop-range.range-index c.range-item.result c.loop-range-test.true c.loop-range.invariant (subst (λ (vs : List ℕ). AreStopped c.loop-range.levels c.stop_listed.new.levels vs) listed (record { level = c.stop_listed.ensures.level; levels = c.stop_listed.ensures.seen; rest = c.stop_listed.ensures.rises }))
