use Rattle.std.proofs.Common.{◌≡◌, filter, take}
use Rattle.kc_insert.specs.private.Watched.{is_few}
use Rattle.kc_insert.proofs.watched.WatchedCounts.watch.Given as goal

abbrev pub invariant-loop-v : goal.invariant-loop-v
invariant-loop-v l =
    (l.self-inside.first ≡ l.initial.self-inside.first)
    × (l.self-inside.counts.items ≡ l.initial.self-inside.counts.items)
    × (l.self-inside.most ≡ l.most)
    × (l.self-inside.doubtful.items ≡ filter (is_few l.fn.self l.most) (take l.v-index l.vertices))
