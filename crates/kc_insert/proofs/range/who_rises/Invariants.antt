use Rattle.std.proofs.Common.{◌≡◌, filter, take}
use Rattle.kc_insert.specs.private.Rising.{rises}
use Rattle.kc_insert.proofs.range.who_rises.Given as goal

abbrev pub invariant-loop-v : goal.invariant-loop-v
invariant-loop-v l = l.rising.items ≡ filter (rises l.levels) (take l.v-index l.began)
