use Rattle.std.proofs.Common.{arith}
use Rattle.kc_levels.proofs.Groups.{IsTop, top-fits}
use Rattle.kc_levels.proofs.thresholds.Thresholds.top.Goals as goal

fits : (c : goal.After-len) → IsTop c.self.inside.height c.len.result
fits c =
    let t = c.self.invariant in
    top-fits c.self.inside.profile c.self.inside.n c.self.inside.height c.len.result t.small t.tall_is (omega (arith, t.sized))

pub overflow_cast-result : goal.overflow_cast-result
overflow_cast-result c = omega (arith, (fits c).short_enough)

pub overflow_sub-result : goal.overflow_sub-result
overflow_sub-result c = omega (arith, (fits c).long_enough)

pub overflow_mul-result : goal.overflow_mul-result
overflow_mul-result c = omega (arith, (fits c).product)

pub overflow_add-result : goal.overflow_add-result
overflow_add-result c = omega (arith, (fits c).product)

pub returns-clause-small : goal.returns-clause-small
returns-clause-small c = omega (arith, (fits c).product)
