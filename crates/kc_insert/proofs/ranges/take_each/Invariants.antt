use Rattle.std.proofs.Common.{ℕ, ◌≡◌, ◌<◌, ◌≤◌, [], get_or, set, take}
use Rattle.std.specs.List.{flat_map}
use Rattle.kc_insert.specs.Ranges.{Part}
use Rattle.kc_insert.proofs.ranges.take_each.Given as goal

abbrev pub invariant-loop-i : goal.invariant-loop-i
invariant-loop-i l =
    (l.all.items ≡ flat_map (λ (p : Part). get_or p.queue l.level []) (take l.i l.initial.items))
    × ((k : ℕ) (d : Part) → k < l.i → get_or l.items k d ≡ record (get_or l.initial.items k d) { queue = set (get_or l.initial.items k d).queue l.level [] })
    × ((k : ℕ) (d : Part) → l.i ≤ k → get_or l.items k d ≡ get_or l.initial.items k d)
