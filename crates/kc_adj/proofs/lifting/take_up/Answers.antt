use Rattle.std.proofs.Common.{arith, refl}
use Rattle.kc_graph.proofs.lemmas.Numbers.{has_number_at}
use Rattle.kc_adj.proofs.LiftLemmas.{taking_first, taking_last}
use Rattle.kc_adj.proofs.lifting.take_up.Goals as goal

pub loop-v-init : goal.loop-v-init
loop-v-init c = taking_first _ _ _ _ refl c.requires.sized c.requires.over c.requires.moved

pub get-requires : goal.get-requires
get-requires c = omega (arith, c.requires.sized, c.requires.vertices _ (has_number_at _ c.args.vertices.now c.loop-v.v-index (omega arith) refl))

pub set-requires : goal.set-requires
set-requires c = omega (arith, c.requires.sized, c.loop-v.invariant.sized, c.requires.vertices _ (has_number_at _ c.args.vertices.now c.loop-v.v-index (omega arith) refl))

pub returns : goal.returns
returns c = taking_last _ _ _ c.loop-v.v-index (omega arith) c.loop-v.invariant
