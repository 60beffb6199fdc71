use Rattle.std.proofs.Common.{ℕ, ◌≡◌, Bool, List, length}
use Rattle.kc_groups.specs.private.Forest.{IsForest, AreGathered}
use Rattle.kc_groups.proofs.ForestLemmas.{with_parents}
use Rattle.kc_groups.proofs.forest.join_forest.Given as goal

abbrev pub invariant-loop-place : goal.invariant-loop-place
invariant-loop-place l =
    (length l.parents ≡ length l.others)
    × ((roots : List ℕ) × IsForest l.parents roots)
    × ((before : ℕ → ℕ → Bool) → AreGathered (length l.others) before l.initial.parents → AreGathered (length l.others) (with_parents before l.others l.place) l.parents)
