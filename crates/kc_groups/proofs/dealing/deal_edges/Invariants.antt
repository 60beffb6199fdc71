use Rattle.std.proofs.Common.{◌≡◌, length, filter, take}
use Rattle.kc_groups.specs.private.Dealing.{with_edges, is_unplaced, AreDealt}
use Rattle.kc_groups.proofs.dealing.deal_edges.Given as goal

abbrev pub invariant-loop-k : goal.invariant-loop-k
invariant-loop-k l =
    (l.quiet ≡ filter (is_unplaced (length l.places) l.places) (take l.k l.edges))
    × AreDealt (with_edges l.places (take l.k l.edges)) l.initial.entries.items l.entries.items
