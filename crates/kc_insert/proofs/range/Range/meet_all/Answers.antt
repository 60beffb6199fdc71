use Rattle.std.proofs.Common.{arith}
use Rattle.kc_insert.proofs.Meeting.{met_held, met_small, met_next}
use Rattle.kc_insert.proofs.range.Range.meet_all.Goals as goal

pub meet-requires-clause-vertex : goal.meet-requires-clause-vertex
meet-requires-clause-vertex c = met_held _ _ c.loop-v.v-index c.args.vertices.now _ _ (omega arith) c.requires.held c.loop-v.invariant

pub meet-requires-clause-small : goal.meet-requires-clause-small
meet-requires-clause-small c = met_small _ _ c.loop-v.v-index c.args.vertices.now _ _ (omega arith) c.requires.held c.loop-v.invariant _ c.requires.small

pub loop-v-preserved : goal.loop-v-preserved
loop-v-preserved c = met_next _ _ c.loop-v.v-index c.args.vertices.now _ _ (omega arith) c.requires.held c.loop-v.invariant _ c.requires.room c.in_ok-meet.ensures
