use Rattle.std.proofs.Common.{refl}
use Rattle.kc_graph.proofs.lemmas.Numbers.{has_number_at}
use Rattle.kc_levels.proofs.moved.moves_in_order.Goals as goal

pub get-requires : goal.get-requires
get-requires c = c.requires.before _ (has_number_at _ c.args.vertices.now c.loop-v.v-index c.loop-v-test.true refl)

pub get-requires-in-loop-v : goal.get-requires-in-loop-v
get-requires-in-loop-v c = c.requires.after _ (has_number_at _ c.args.vertices.now c.loop-v.v-index c.loop-v-test.true refl)
