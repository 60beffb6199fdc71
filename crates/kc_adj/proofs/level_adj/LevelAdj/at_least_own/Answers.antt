use Rattle.std.proofs.Common.{arith}
use Rattle.std.proofs.lemmas.List.{get_or_read}
use Rattle.kc_adj.proofs.Counted.{count-few}
use Rattle.kc_adj.proofs.level_adj.LevelAdj.at_least_own.Goals as goal

pub returns-clause-few : goal.returns-clause-few
returns-clause-few c =
    let within = rw (← c.self.view_is) at c.requires in
    let counts = c.self.invariant.own_counts in
    let read = get_or_read _ c.args.v _ (omega (arith, counts.sized, within)) c.index.ensures 0 in
    rw (← c.self.view_is, read) (count-few _ _ 0 _ c.args.v c.self.invariant.graph counts within)
