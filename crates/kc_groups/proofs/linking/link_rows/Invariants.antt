use Rattle.std.proofs.Common.{ℕ, Bool, ◌||◌, length}
use Rattle.kc_groups.specs.private.Forest.{AreGathered}
use Rattle.kc_groups.specs.private.Gathering.{in_rows}
use Rattle.kc_groups.specs.Gathering.{vertices}
use Rattle.kc_groups.proofs.linking.link_rows.Given as goal

abbrev pub invariant-loop-place : goal.invariant-loop-place
invariant-loop-place l =
    (before : ℕ → ℕ → Bool) → AreGathered (length l.moves) before l.initial.parents → AreGathered (length l.moves) (λ i j. before i j || in_rows l.graph (vertices l.moves) l.fn.part.start l.place i j) l.parents
