use Rattle.std.proofs.Common.{◌<◌, length, get_or, refl, ◌∙◌, arith}
use Rattle.std.proofs.lemmas.List.{length-set}
use Rattle.kc_groups.specs.Gathering.{vertices}
use Rattle.kc_groups.proofs.WorkLemmas.{no_move, vertex_at, vertex_inside, many, keeps_none, keeps_at, cleaned}
use Rattle.kc_groups.proofs.work.reset.Goals as goal

pub bounds-places-m : goal.bounds-places-m
bounds-places-m c = omega (arith, vertex_inside (length c.args.places.now) c.args.moves.now c.loop-m.m-index c.requires.order.below c.loop-m-test.true, c.loop-m.invariant.0)

pub loop-m-preserved : goal.loop-m-preserved
loop-m-preserved c =
    let n = length c.args.places.now in
    let ms = c.args.moves.now in
    let inside : c.loop-m.m-index < length (vertices c.args.moves.now) = omega (arith, many ms, c.loop-m-test.true) in
    let is = vertex_at ms c.loop-m.m-index c.loop-m-test.true in
    let low = vertex_inside n ms c.loop-m.m-index c.requires.order.below c.loop-m-test.true in (
      length-set _ _ _ ∙ c.loop-m.invariant.0,
      keeps_none n (vertices ms) c.loop-m.places c.loop-m.m-index (get_or ms c.loop-m.m-index no_move).vertex n c.requires.order.rises inside is (omega (arith, low, c.loop-m.invariant.0)) c.loop-m.invariant.1,
      keeps_at n (vertices ms) c.loop-m.places c.loop-m.m-index (get_or ms c.loop-m.m-index no_move).vertex n c.requires.order.rises inside is (omega (arith, low, c.loop-m.invariant.0)) (λ i. n) c.loop-m.invariant.2 refl,
    )

pub returns : goal.returns
returns c = cleaned _ (vertices c.args.moves.now) _ c.loop-m.invariant.0 c.loop-m.invariant.1 (λ i h. c.loop-m.invariant.2 i (omega (arith, many c.args.moves.now, h, c.loop-m-test.false)))
