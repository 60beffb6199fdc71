use Rattle.kc_graph.proofs.NumberLemmas.{all_below-last}
use Rattle.kc_graph.proofs.rows.ends_below.Goals as goal

pub returns-in-Some : goal.returns-in-Some
returns-in-Some c =
    let at = c.in-Some.ensures.item.3 in
    all_below-last c.args.x c.in-Some.last.now c.args.items.now c.requires at.0 (at.1 0)
