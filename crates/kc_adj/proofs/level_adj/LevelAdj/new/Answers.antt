use Rattle.std.proofs.Common.{◌≡◌, replicate, rules}
use Rattle.kc_adj.proofs.Counted.{adjacency_first}
use Rattle.kc_adj.proofs.level_adj.LevelAdj.new.Goals as goal

pub invariant_of-result : goal.invariant_of-result
invariant_of-result c =
    let own : c.in_ok-own.own.items ≡ replicate c.args.n 0 = search rules in
    let below : c.in_ok-below.below.items ≡ replicate c.args.n 0 = search rules in
    adjacency_first c.args.n _ _ _ _ c.requires.small c.in_ok-graph.ensures c.in_ok-levels.ensures own below
