use Rattle.std.proofs.Common.{arith}
use Rattle.store_bench.proofs.showing.groups_of.Goals as goal

pub overflow_cast-result : goal.overflow_cast-result
overflow_cast-result c = let few = c.plans_are_small.ensures.groups c.args.n c.args.plan.now c.requires in let fits = c.ranges.n.fits in let len = c.len.ensures in omega (arith, few, fits, len)
