use Rattle.std.proofs.Common.{refl, arith}
use Rattle.kc_graph.proofs.lemmas.Numbers.{has_number_at}
use Rattle.kc_insert.proofs.range.who_rises.Goals as goal

pub rises-requires : goal.rises-requires
rises-requires c = c.requires.inside _ (has_number_at _ c.args.began.now c.loop-v.v-index (omega arith) refl)
