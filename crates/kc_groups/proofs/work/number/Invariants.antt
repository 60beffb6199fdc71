use Rattle.std.proofs.Common.{ℕ, ◌≡◌, ◌<◌, length, get_or}
use Rattle.kc_groups.specs.Gathering.{vertices}
use Rattle.kc_groups.specs.private.Gathering.{HaveNone}
use Rattle.kc_groups.proofs.work.number.Given as goal

abbrev pub invariant-loop-place : goal.invariant-loop-place
invariant-loop-place l =
    (length l.places ≡ length l.initial.places)
    × HaveNone (length l.initial.places) (vertices l.moves) l.places
    × ((i : ℕ) → i < l.place → get_or l.places (get_or (vertices l.moves) i 0) 0 ≡ i)
