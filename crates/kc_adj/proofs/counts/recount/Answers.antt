use Rattle.std.proofs.Common.{◌-◌, ap, arith, set, ◌∙◌}
use Rattle.kc_adj.proofs.Moving.{recounted_up, recounted_down}
use Rattle.kc_adj.proofs.counts.recount.Goals as goal

pub returns-then-from-to-clause-own : goal.returns-then-from-to-clause-own
returns-then-from-to-clause-own c = c.gain.ensures.own ∙ ap (set c.args.counts.now.own.items c.args.w) (recounted_up c.args.from c.args.to c.args.level _ (omega arith))

pub returns-then-from-to-clause-below : goal.returns-then-from-to-clause-below
returns-then-from-to-clause-below c = c.gain.ensures.below ∙ ap (set c.args.counts.now.below.items c.args.w) (recounted_up c.args.from c.args.to (c.args.level - 1) _ (omega arith))

pub returns-else-from-to-clause-own : goal.returns-else-from-to-clause-own
returns-else-from-to-clause-own c = c.lose.ensures.own ∙ ap (set c.args.counts.now.own.items c.args.w) (recounted_down c.args.from c.args.to c.args.level _ (omega arith))

pub returns-else-from-to-clause-below : goal.returns-else-from-to-clause-below
returns-else-from-to-clause-below c = c.lose.ensures.below ∙ ap (set c.args.counts.now.below.items c.args.w) (recounted_down c.args.from c.args.to (c.args.level - 1) _ (omega arith))
