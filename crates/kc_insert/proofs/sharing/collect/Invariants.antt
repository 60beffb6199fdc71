use Rattle.std.proofs.Common.{ℕ, ◌≡◌, ◌<◌, ◌≤◌, get_or}
use Rattle.kc_insert.specs.Ranges.{Part, Tell}
use Rattle.kc_insert.proofs.sharing.collect.Given as goal

abbrev pub invariant-loop-i : goal.invariant-loop-i
invariant-loop-i l =
    ((k : ℕ) (d : Part) (e : Tell) → k < l.i → get_or l.items k d ≡ record (get_or l.initial.items k d) { tell = get_or l.initial.told k e })
    × ((k : ℕ) (d : Part) (e : Tell) → k < l.i → get_or l.told k e ≡ (get_or l.initial.items k d).tell)
    × ((k : ℕ) (d : Part) → l.i ≤ k → get_or l.items k d ≡ get_or l.initial.items k d)
    × ((k : ℕ) (e : Tell) → l.i ≤ k → get_or l.told k e ≡ get_or l.initial.told k e)
