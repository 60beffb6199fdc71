use Rattle.std.proofs.Common.{ℕ, ◌≡◌, ◌<◌, List, length, get_or}
use Rattle.kc_groups.specs.private.Forest.{IsForest}
use Rattle.kc_groups.proofs.forest.find.Given as goal

abbrev pub invariant-loop-parents : goal.invariant-loop-parents
invariant-loop-parents l =
    (l.at < length l.parents)
    × (length l.parents ≡ length l.initial.parents)
    × ((roots : List ℕ) → IsForest l.initial.parents roots → IsForest l.parents roots × (get_or roots l.at 0 ≡ get_or roots l.place 0))

abbrev pub decreases-loop-parents : goal.decreases-loop-parents
decreases-loop-parents l = l.at
