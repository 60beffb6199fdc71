use Rattle.kc_graph.proofs.SharingLemmas.{is_cut}
use Rattle.kc_graph.proofs.sharing.cut_in_two.Goals as goal

pub returns-then-are_from : goal.returns-then-are_from
returns-then-are_from c =
    is_cut c.args.halves.below.now c.args.halves.above.now c.vertex_at-v.result c.in_ok-middle.field-0 c.len_below-below.result.0 c.len_below-below.result.1 _ _ c.in_ok-middle.ensures c.vertex_at-v.ensures c.split.ensures.front c.split.ensures.back c.if-are_below.ensures c.if-are_from.ensures
