use Rattle.std.proofs.Common.{◌≡◌, ◌-◌, ◌≤◌, take, leb, get_or}
use Rattle.std.specs.Prelude.{count_by}
use Rattle.kc_adj.proofs.afresh.counts_of.Given as goal

abbrev pub invariant-loop-w : goal.invariant-loop-w
invariant-loop-w l =
    (l.own ≡ count_by (λ w. leb l.level (get_or l.levels w 0)) (take l.w-index l.row)) × (l.own ≤ l.w-index)
    × (l.below ≡ count_by (λ w. leb (l.level - 1) (get_or l.levels w 0)) (take l.w-index l.row)) × (l.below ≤ l.w-index)
