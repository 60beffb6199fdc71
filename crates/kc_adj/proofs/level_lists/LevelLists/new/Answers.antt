use Rattle.std.proofs.Common.{◌≡◌, arith}
use Rattle.kc_adj.proofs.Marks.{marked_none}
use Rattle.kc_adj.proofs.level_lists.LevelLists.new.Goals as goal

pub invariant_of-result : goal.invariant_of-result
invariant_of-result g c =
    let end : c.loop.counter ≡ c.args.count = omega arith in
    rw (c.loop.invariant, end) (marked_none c.args.count c.in_ok-marks.marks.items (omega arith) (c.in_ok-marks.ensures.items_if_clones_equal (λ y same. same)))
