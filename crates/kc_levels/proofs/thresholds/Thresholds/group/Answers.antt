use Rattle.std.proofs.Common.{arith}
use Rattle.kc_levels.proofs.Groups.{height-pos, group_of-within, group_of-at, top_level-small}
use Rattle.kc_levels.proofs.thresholds.Thresholds.group.Goals as goal

pub nonzero_div-result : goal.nonzero_div-result
nonzero_div-result c =
    let t = c.self.invariant in
    omega (arith, t.tall_is, height-pos c.self.inside.profile c.self.inside.n t.positive)

pub returns-else-level-eq0-clause-within : goal.returns-else-level-eq0-clause-within
returns-else-level-eq0-clause-within c =
    let t = c.self.invariant in
    let is = group_of-at c.self.inside.profile c.self.inside.n c.args.level (omega arith) in
    let capped = rw (← c.self.view_is) at c.requires in
    rw (t.tall_is, ← is, ← c.self.view_is) (group_of-within c.self.inside.profile c.self.inside.n c.args.level t.positive capped)

pub returns-then-level-eq0-clause-small : goal.returns-then-level-eq0-clause-small
returns-then-level-eq0-clause-small c = rw (← c.self.view_is) (omega (arith, top_level-small c.self.inside.profile c.self.inside.n c.self.invariant.small))

pub returns-else-level-eq0-clause-small : goal.returns-else-level-eq0-clause-small
returns-else-level-eq0-clause-small c = rw (← c.self.view_is) (omega (arith, top_level-small c.self.inside.profile c.self.inside.n c.self.invariant.small))
