use Rattle.kc_insert.proofs.Staying.{IsLettingStay}
use Rattle.kc_insert.proofs.range.stop_watched.Given as goal

abbrev pub invariant-loop-v : goal.invariant-loop-v
invariant-loop-v l = IsLettingStay l.initial.levels l.watched l.doubtful l.v-index l.levels l.stay.items
