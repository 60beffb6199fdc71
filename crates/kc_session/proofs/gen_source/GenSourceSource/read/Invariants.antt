use Rattle.std.proofs.Common.{length, ◌-◌, ◌≡◌, ◌<◌, ◌++◌, take}
use Rattle.kc_session.proofs.gen_source.GenSourceSource.read.Given as goal

abbrev pub invariant-loop-count : goal.invariant-loop-count
invariant-loop-count l = (l.initial.self ≡ take l.count l.buf ++ l.self) × (l.count < length l.buf)

abbrev pub decreases-loop-count : goal.decreases-loop-count
decreases-loop-count l = length l.initial.buf - l.count
