use Rattle.std.proofs.Common.{◌≡◌, ◌+◌, ◌-◌, ◌≤◌, ◌++◌, length, take, leb, get_or}
use Rattle.std.specs.Prelude.{count_by, filter}
use Rattle.kc_adj.specs.private.Passing.{is_touched}
use Rattle.kc_adj.proofs.passes.visit_vertex.Given as goal

abbrev pub invariant-loop-w : goal.invariant-loop-w
invariant-loop-w l =
    (l.own ≡ count_by (λ w. leb l.to (get_or l.lift.new w 0)) (take l.w-index l.row)) × (l.own ≤ l.w-index)
    × (l.below ≡ count_by (λ w. leb l.under (get_or l.lift.new w 0)) (take l.w-index l.row)) × (l.below ≤ l.w-index)
    × (take l.end l.touched.items ≡ l.fn.touched.items ++ filter (is_touched l.lift l.from l.to) (take l.w-index l.row))
    × (l.end + (length l.row - l.w-index) ≤ length l.touched.items)
