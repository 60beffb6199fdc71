use Rattle.std.proofs.Common.{arith}
use Rattle.kc_levels.proofs.lemmas.Thresholds.{group_of-mono}
use Rattle.kc_insert.proofs.sweeping.end_of_band.Goals as goal

pub returns-clause-same : goal.returns-clause-same
returns-clause-same c = λ k from before.
    let above = group_of-mono c.args.th.now.profile c.args.th.now.vertices c.args.low k c.top-top.ensures.positive from in
    let below = group_of-mono c.args.th.now.profile c.args.th.now.vertices k c.loop-first.first c.top-top.ensures.positive (omega arith) in
    omega (arith, above, below, c.loop-first.invariant.3)
