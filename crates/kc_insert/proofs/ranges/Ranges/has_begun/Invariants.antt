use Rattle.std.proofs.Common.{ℕ, ◌≡◌, ◌<◌, [], get_or}
use Rattle.kc_insert.specs.Ranges.{Part}
use Rattle.kc_insert.proofs.ranges.Ranges.has_begun.Given as goal

abbrev pub invariant-loop-range : goal.invariant-loop-range
invariant-loop-range l = (k : ℕ) (d : Part) → k < l.range-index → (get_or l.items k d).began ≡ []
