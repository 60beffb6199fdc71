use Rattle.std.proofs.Common.{take}
use Rattle.kc_groups.specs.private.Dealing.{with_moves, AreDealt}
use Rattle.kc_groups.proofs.dealing.deal_moves.Given as goal

abbrev pub invariant-loop-k : goal.invariant-loop-k
invariant-loop-k l = AreDealt (with_moves l.places (take l.k l.moves)) l.initial.entries.items l.entries.items
