use Rattle.std.proofs.Common.{ℕ, ◌≡◌, ◌<◌, Bool, List, length, get_or}
use Rattle.kc_groups.specs.private.Forest.{IsForest, AreGathered}
use Rattle.kc_groups.specs.Gathering.{vertices}
use Rattle.kc_groups.proofs.LinkLemmas.{so_far}
use Rattle.kc_groups.proofs.linking.link_row.Given as goal

abbrev pub invariant-loop-w : goal.invariant-loop-w
invariant-loop-w l =
    (length l.parents ≡ length l.moves)
    × ((roots : List ℕ) × IsForest l.parents roots)
    × (l.tree < length l.parents)
    × ((roots : List ℕ) → IsForest l.parents roots → get_or roots l.place 0 ≡ get_or roots l.tree 0)
    × ((before : ℕ → ℕ → Bool) → AreGathered (length (vertices l.moves)) before l.initial.parents → AreGathered (length (vertices l.moves)) (so_far before (vertices l.moves) l.place l.w-items l.w-index) l.parents)
