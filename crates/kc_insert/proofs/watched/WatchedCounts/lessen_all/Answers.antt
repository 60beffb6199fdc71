use Rattle.std.proofs.Common.{arith}
use Rattle.kc_insert.proofs.Watching.{less_held, less_some, less_on}
use Rattle.kc_insert.proofs.watched.WatchedCounts.lessen_all.Goals as goal

pub lessen-requires-clause-vertex : goal.lessen-requires-clause-vertex
lessen-requires-clause-vertex c = less_held _ _ c.args.vertices.now c.loop-v.v-index (omega arith) c.requires.held c.requires.enough c.loop-v.invariant

pub lessen-requires-clause-some : goal.lessen-requires-clause-some
lessen-requires-clause-some c = less_some _ _ c.args.vertices.now c.loop-v.v-index (omega arith) c.requires.held c.requires.enough c.loop-v.invariant

pub loop-v-preserved : goal.loop-v-preserved
loop-v-preserved c = less_on _ _ c.args.vertices.now c.loop-v.v-index (omega arith) c.requires.held c.requires.enough c.loop-v.invariant _ c.in_ok-lessen.ensures.watched.first c.in_ok-lessen.ensures.counts c.in_ok-lessen.ensures.watched
