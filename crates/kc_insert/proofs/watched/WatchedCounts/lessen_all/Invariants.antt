use Rattle.kc_insert.proofs.Watching.{IsLess}
use Rattle.kc_insert.proofs.watched.WatchedCounts.lessen_all.Given as goal

abbrev pub invariant-loop-v : goal.invariant-loop-v
invariant-loop-v l = IsLess l.initial.self l.self l.vertices l.v-index
