use Rattle.std.proofs.Common.{ℕ, ◌≡◌, ◌<◌, ◌≤◌, get_or, take}
use Rattle.std.specs.Prelude.{sum_by}
use Rattle.kc_insert.specs.Ranges.{Part}
use Rattle.kc_insert.proofs.ranges.steps_of.Given as goal

abbrev pub invariant-loop-i : goal.invariant-loop-i
invariant-loop-i l =
    (l.steps ≡ sum_by (λ (p : Part). p.steps) (take l.i l.initial.items))
    × ((k : ℕ) (d : Part) → k < l.i → get_or l.items k d ≡ record (get_or l.initial.items k d) { steps = 0 })
    × ((k : ℕ) (d : Part) → l.i ≤ k → get_or l.items k d ≡ get_or l.initial.items k d)
