use Rattle.std.proofs.Common.{◌≡◌, ◌≤◌, leb, get_or, take}
use Rattle.std.specs.Prelude.{count_by}
use Rattle.kc_levels.proofs.counts.at_least.Given as goal

abbrev pub invariant-loop-w : goal.invariant-loop-w
invariant-loop-w l = (l.count ≡ count_by (λ w. leb l.level (get_or l.levels w 0)) (take l.w-index l.neighbours)) × (l.count ≤ l.w-index)
