use Rattle.std.proofs.Common.{◌≡◌, ◌≤◌, ◌-◌, get_or, length, ap, ◌∙◌, arith}
use Rattle.std.proofs.lemmas.List.Sums.{length-filter, count_by-le-length}
use Rattle.kc_levels.specs.LevelList.{at_least}
use Rattle.kc_adj.specs.private.Passing.{is_touched}
use Rattle.kc_adj.proofs.Moving.{count_last}
use Rattle.kc_adj.proofs.PassLemmas.{looked, visit_is}
use Rattle.kc_adj.proofs.passes.visit_vertex.Goals as goal

pub overflow_cast-result : goal.overflow_cast-result
overflow_cast-result c =
    let test = is_touched c.args.lift.now (get_or c.lift.inside.old.now c.args.v 0) (get_or c.lift.inside.new.now c.args.v 0) in
    let within : c.loop-w.end ≤ length c.loop-w.touched.items = omega (arith, c.loop-w.invariant.5) in
    let count = (looked test c.neighbours-row.result.now c.args.touched.now.items c.loop-w.touched.items c.loop-w.w-index c.loop-w.end (omega arith) within c.loop-w.invariant.4).1 in
    omega (arith, count, length-filter test c.neighbours-row.result.now, count_by-le-length test c.neighbours-row.result.now, c.len-start.ensures, c.neighbours-row.ensures.fewer, c.neighbours-row.ensures.small)

pub returns-clause-visit : goal.returns-clause-visit
returns-clause-visit c =
    let first = count_last c.lift.inside.graph.now c.lift.inside.new.now c.neighbours-row.result.now c.args.v _ c.loop-w.w-index c.loop-w.own (rw (← c.lift.view_is) at c.loop-w.invariant.0) (omega arith) c.neighbours-row.ensures.value in
    let second = count_last c.lift.inside.graph.now c.lift.inside.new.now c.neighbours-row.result.now c.args.v c.saturating_sub-under.result c.loop-w.w-index c.loop-w.below (rw (← c.lift.view_is) at c.loop-w.invariant.2) (omega arith) c.neighbours-row.ensures.value
    ∙ ap (at_least c.lift.inside.graph.now c.lift.inside.new.now c.args.v) c.saturating_sub-under.ensures in
    let test = is_touched c.args.lift.now (get_or c.lift.inside.old.now c.args.v 0) (get_or c.lift.inside.new.now c.args.v 0) in
    let within : c.loop-w.end ≤ length c.loop-w.touched.items = omega (arith, c.loop-w.invariant.5) in
    let count = (looked test c.neighbours-row.result.now c.args.touched.now.items c.loop-w.touched.items c.loop-w.w-index c.loop-w.end (omega arith) within c.loop-w.invariant.4).1 in
    let start : c.len-start.result ≡ length c.args.touched.now.items = omega (arith, c.len-start.ensures) in
    rw (← c.lift.view_is) (visit_is _ _ _ _ _ _ first second (ap (λ n. c.loop-w.end - n) start ∙ rw c.neighbours-row.ensures.value at (rw (← c.lift.view_is) at count)))
