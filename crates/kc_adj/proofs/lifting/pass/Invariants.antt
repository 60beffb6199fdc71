use Rattle.std.proofs.Common.{◌≡◌, ◌≤◌, drop, take, leb, get_or}
use Rattle.std.specs.Prelude.{count_by}
use Rattle.kc_adj.specs.private.Lifting.{gains, AreGaining}
use Rattle.kc_adj.proofs.lifting.pass.Given as goal

abbrev pub invariant-loop-w : goal.invariant-loop-w
invariant-loop-w l =
    AreGaining (gains l.lift l.from l.to 0) l.w-items (drop l.w-index l.w-items) l.initial.counts.own.items l.counts.own.items
    × AreGaining (gains l.lift l.from l.to 1) l.w-items (drop l.w-index l.w-items) l.initial.counts.below.items l.counts.below.items
    × (l.own ≡ count_by (λ w. leb l.to (get_or l.lift.new w 0)) (take l.w-index l.w-items)) × (l.own ≤ l.w-index)
    × (l.below ≡ count_by (λ w. leb l.under (get_or l.lift.new w 0)) (take l.w-index l.w-items)) × (l.below ≤ l.w-index)
