use Rattle.std.proofs.Common.{ℕ, ◌≡◌, ◌<◌, ◌≤◌, [], get_or, length, replicate}
use Rattle.kc_insert.specs.Ranges.{Part}
use Rattle.kc_insert.proofs.ranges.forget_each.Given as goal

abbrev pub invariant-loop-i : goal.invariant-loop-i
invariant-loop-i l =
    ((k : ℕ) (d : Part) → k < l.i → get_or l.items k d ≡ record (get_or l.initial.items k d) { began = []; risen = []; queue = replicate (length (get_or l.initial.items k d).queue) []; meetings = replicate (length (get_or l.initial.items k d).meetings) [] })
    × ((k : ℕ) (d : Part) → l.i ≤ k → get_or l.items k d ≡ get_or l.initial.items k d)
