use Rattle.std.proofs.Common.{◌≡◌, ◌+◌, take}
use Rattle.kc_session.specs.Counts.{capped, moves_in}
use Rattle.kc_session.proofs.counts.with_moves.Given as goal

abbrev pub invariant-loop-entry : goal.invariant-loop-entry
invariant-loop-entry l = l.count ≡ capped (l.fn.count + moves_in (take l.entry-index l.entries))
