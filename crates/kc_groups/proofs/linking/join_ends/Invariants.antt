use Rattle.std.proofs.Common.{ℕ, ◌≡◌, Bool, List, length}
use Rattle.kc_groups.specs.private.Forest.{IsForest, AreGathered}
use Rattle.kc_groups.specs.Gathering.{vertices}
use Rattle.kc_groups.proofs.LinkLemmas.{with_first}
use Rattle.kc_groups.proofs.linking.join_ends.Given as goal

abbrev pub invariant-loop-e : goal.invariant-loop-e
invariant-loop-e l =
    (length l.parents ≡ length l.moves)
    × ((roots : List ℕ) × IsForest l.parents roots)
    × ((before : ℕ → ℕ → Bool) → AreGathered (length l.moves) before l.initial.parents → AreGathered (length l.moves) (with_first before (vertices l.moves) l.edges l.e-index) l.parents)
