use Rattle.std.proofs.Common.{take}
use Rattle.kc_dense.proofs.RemainingLemmas.{AreFalling}
use Rattle.kc_dense.proofs.remaining.take_next.Given as goal

abbrev pub invariant-loop-u : goal.invariant-loop-u
invariant-loop-u l = AreFalling l.fn.degrees l.vertex (take l.u-index l.u-items) l.degrees
