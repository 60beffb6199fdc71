use Rattle.std.proofs.Common.{ℕ, ◌≡◌, ◌<◌, ◌≤◌, get_or}
use Rattle.kc_insert.specs.Ranges.{Part}
use Rattle.kc_insert.specs.private.Ranges.{LooksAnew}
use Rattle.kc_insert.proofs.ranges.look_each.Given as goal

abbrev pub invariant-loop-i : goal.invariant-loop-i
invariant-loop-i l =
    ((k : ℕ) (d : Part) → k < l.i → LooksAnew l.levels l.most (get_or l.initial.items k d) (get_or l.items k d))
    × ((k : ℕ) (d : Part) → l.i ≤ k → get_or l.items k d ≡ get_or l.initial.items k d)
