use Rattle.std.proofs.Common.{length, arith}
use Rattle.kc_graph.specs.private.HalfLists.{halves_of}
use Rattle.kc_graph.proofs.SharingLemmas.{cut_row, low_inside, high_inside, changed_in_both}
use Rattle.kc_graph.proofs.sharing.+changing.Goals as goal

pub change_parts-overflow_sub-high : goal.change_parts-overflow_sub-high
change_parts-overflow_sub-high g t c = (cut_row c.args.part.first c.in-Some.high.first (halves_of c.args.part.halves) (halves_of c.in-Some.low.halves) (halves_of c.in-Some.high.halves) c.in-Some.ensures.halves (length c.args.rows.now) c.requires).0

pub change_parts-split_at_mut-front-requires : goal.change_parts-split_at_mut-front-requires
change_parts-split_at_mut-front-requires g t c =
    let row = cut_row c.args.part.first c.in-Some.high.first (halves_of c.args.part.halves) (halves_of c.in-Some.low.halves) (halves_of c.in-Some.high.halves) c.in-Some.ensures.halves (length c.args.rows.now) c.requires in
    omega (arith, row.0, row.1)

pub change_parts-change_both-requires-clause-front : goal.change_parts-change_both-requires-clause-front
change_parts-change_both-requires-clause-front g t c κs within = rw c.in-Some.ensures.first
    (low_inside c.args.part.first c.in-Some.high.first (halves_of c.args.part.halves) (halves_of c.in-Some.low.halves) (halves_of c.in-Some.high.halves) c.in-Some.ensures.halves (length c.args.rows.now) _ c.requires c.split_at_mut-front.ensures.front_len)

pub change_parts-change_both-requires-clause-back : goal.change_parts-change_both-requires-clause-back
change_parts-change_both-requires-clause-back g t c κs within =
    (high_inside c.args.part.first c.in-Some.high.first (halves_of c.args.part.halves) (halves_of c.in-Some.low.halves) (halves_of c.in-Some.high.halves) c.in-Some.ensures.halves (length c.args.rows.now) _ c.requires c.split_at_mut-front.ensures.back_len)

pub change_parts-returns-in-Some : goal.change_parts-returns-in-Some
change_parts-returns-in-Some g t c =
    let row = cut_row c.args.part.first c.in-Some.high.first (halves_of c.args.part.halves) (halves_of c.in-Some.low.halves) (halves_of c.in-Some.high.halves) c.in-Some.ensures.halves (length c.args.rows.now) c.requires in
    changed_in_both c.args.change c.change_both.result c.args.part.first c.in-Some.high.first (halves_of c.args.part.halves) (halves_of c.in-Some.low.halves) (halves_of c.in-Some.high.halves) c.in-Some.ensures.halves c.args.rows.now c.split_at_mut-front.result.0.now c.split_at_mut-front.result.1.now _ _ c.split_at_mut-front.ensures.value row.0 c.split_at_mut-front.ensures.front_len (rw c.in-Some.ensures.first at c.change_both.ensures.front) c.change_both.ensures.back
