use Rattle.std.proofs.Common.{◌≡◌, ◌+◌, ◌≤◌, drop, take, leb, get_or}
use Rattle.std.specs.Prelude.{count_by}
use Rattle.kc_adj.specs.private.Moving.{IsMoving}
use Rattle.kc_adj.proofs.moves.pass.Given as goal

abbrev pub invariant-loop-w : goal.invariant-loop-w
invariant-loop-w g l =
    IsMoving l.graph l.levels l.vertex l.new 0 l.counts.own.items (drop l.w-index l.w-items)
    × IsMoving l.graph l.levels l.vertex l.new 1 l.counts.below.items (drop l.w-index l.w-items)
    × (l.own ≡ count_by (λ w. leb l.new (get_or l.levels w 0)) (take l.w-index l.w-items)) × (l.own ≤ l.w-index)
    × (l.below ≡ count_by (λ w. leb l.under (get_or l.levels w 0)) (take l.w-index l.w-items)) × (l.below ≤ l.w-index)
    × (l.steps ≡ l.initial.steps + l.w-index)
