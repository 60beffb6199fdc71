use Rattle.std.proofs.Common.{◌≡◌, ◌-◌, ◌∙◌, get_or, arith, ap}
use Rattle.std.proofs.lemmas.List.{get_or_read}
use Rattle.kc_levels.specs.LevelList.{at_least}
use Rattle.kc_adj.proofs.Counted.{count-few, at_least-zero}
use Rattle.kc_adj.proofs.level_adj.LevelAdj.at_least_below.Goals as goal

pub returns-clause-degree : goal.returns-clause-degree
returns-clause-degree c =
    let within = rw (← c.self.view_is) at c.requires in
    let counts = c.self.invariant.below_counts in
    let read = get_or_read _ c.args.v _ (omega (arith, counts.sized, within)) c.index.ensures 0 in
    rw (← c.self.view_is) (λ ground.
    let zero : get_or c.self.inside.levels c.args.v 0 - 1 ≡ 0 = omega (arith, ground) in
    read ∙ counts.values c.args.v within ∙ ap (at_least c.self.inside.graph c.self.inside.levels c.args.v) zero ∙ at_least-zero c.self.inside.graph c.self.inside.levels c.args.v)

pub returns-clause-few : goal.returns-clause-few
returns-clause-few c =
    let within = rw (← c.self.view_is) at c.requires in
    let counts = c.self.invariant.below_counts in
    let read = get_or_read _ c.args.v _ (omega (arith, counts.sized, within)) c.index.ensures 0 in
    rw (← c.self.view_is, read) (count-few _ _ 1 _ c.args.v c.self.invariant.graph counts within)
