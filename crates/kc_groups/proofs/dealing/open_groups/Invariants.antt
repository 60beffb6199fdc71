use Rattle.std.proofs.Common.{◌≡◌, map, length, get_or}
use Rattle.kc_groups.specs.Entries.{labels_below}
use Rattle.kc_groups.specs.Gathering.{vertices}
use Rattle.kc_groups.specs.private.Dealing.{empty_entry, ArePlaces}
use Rattle.kc_groups.proofs.dealing.open_groups.Given as goal

abbrev pub invariant-loop-m : goal.invariant-loop-m
invariant-loop-m l =
    (l.entries.items ≡ map (empty_entry l.phase.number l.phase.add) (labels_below l.initial.places (get_or (vertices l.moves) l.m-index (length l.initial.places))))
    × ArePlaces (length l.initial.places) l.initial.places (labels_below l.initial.places (get_or (vertices l.moves) l.m-index (length l.initial.places))) l.places (get_or (vertices l.moves) l.m-index (length l.initial.places))
