use Rattle.std.proofs.Common.{ℕ, ◌≡◌, ◌<◌, List, length, get_or}
use Rattle.kc_groups.specs.private.Forest.{IsForest}
use Rattle.kc_groups.specs.Gathering.{vertices}
use Rattle.kc_groups.specs.private.Gathering.{HaveNone}
use Rattle.kc_groups.proofs.work.label.Given as goal

abbrev pub invariant-loop-place : goal.invariant-loop-place
invariant-loop-place l =
    (length l.places ≡ length l.initial.places)
    × HaveNone (length l.initial.places) (vertices l.moves) l.places
    × ((roots : List ℕ) → IsForest l.parents roots → (i : ℕ) → i < l.place → get_or l.places (get_or (vertices l.moves) i 0) 0 ≡ get_or (vertices l.moves) (get_or roots i 0) 0)
