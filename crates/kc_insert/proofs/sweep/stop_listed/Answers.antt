use Rattle.std.proofs.Common.{get_or, refl, sym, ◌∙◌, arith}
use Rattle.kc_graph.proofs.lemmas.Numbers.{has_number_at}
use Rattle.kc_insert.proofs.Stopping.{stopped_none, stopped_one, stopped_was}
use Rattle.kc_insert.proofs.sweep.stop_listed.Goals.{then-rises, else-rises}
use Rattle.kc_insert.proofs.sweep.stop_listed.Goals as goal

pub rises-requires : goal.rises-requires
rises-requires c = rw c.loop-v.invariant.levels (c.requires.inside _ (has_number_at (get_or c.args.vertices.now c.loop-v.v-index 0) c.args.vertices.now c.loop-v.v-index c.loop-v-test.true refl))

pub stop-requires-clause-small : goal.stop-requires-clause-small
stop-requires-clause-small c = omega (arith, c.loop-v.invariant.level, c.requires.small _ (stopped_was c.args.levels.now c.loop-v.levels _ c.loop-v.invariant _ (sym c.rises.ensures ∙ c.if-rises.true)))

pub loop-v-preserved : goal.loop-v-preserved
loop-v-preserved c = elim c.if-rises.branch [
  | then-rises w ↦ rw w.levels-is (stopped_one c.args.levels.now c.loop-v.levels c.args.vertices.now c.loop-v.v-index c.loop-v-test.true c.loop-v.invariant _ w.stop.ensures.level w.stop.ensures.seen w.stop.ensures.rises)
  | else-rises w ↦ rw w.levels-is (stopped_none c.args.levels.now c.loop-v.levels c.args.vertices.now c.loop-v.v-index c.loop-v-test.true c.loop-v.invariant (sym c.rises.ensures ∙ w.if-rises.false))
]
