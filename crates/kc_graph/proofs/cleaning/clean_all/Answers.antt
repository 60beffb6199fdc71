use Rattle.std.proofs.Common.{refl}
use Rattle.kc_graph.proofs.LaterLemmas.{come_to_cleaned}
use Rattle.kc_graph.proofs.cleaning.clean_all.Goals as goal

pub returns : goal.returns
returns g c =
    come_to_cleaned c.args.graph.now c.args.items.now c.in_ok-cleaned.field-0 c.sort.new.self c.sort-2.new.self _ c.vertices.ensures.graph c.requires.inside c.in_ok-cleaned.ensures c.sort.ensures.same c.sort.ensures.in_order c.sort-2.ensures.same c.sort-2.ensures.in_order refl
