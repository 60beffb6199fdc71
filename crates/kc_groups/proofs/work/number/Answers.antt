use Rattle.std.proofs.Common.{◌<◌, length, get_or, ◌∙◌, arith, refl}
use Rattle.std.proofs.lemmas.List.{length-set}
use Rattle.kc_graph.proofs.lemmas.Numbers.{length-rising}
use Rattle.kc_groups.specs.Gathering.{vertices}
use Rattle.kc_groups.proofs.WorkLemmas.{no_move, vertex_at, vertex_inside, many, keeps_none, keeps_at, clean_none}
use Rattle.kc_groups.proofs.work.number.Goals as goal

pub overflow_cast-places : goal.overflow_cast-places
overflow_cast-places c =
    let few = length-rising (length c.args.places.now) 0 (vertices c.args.moves.now) c.requires.order.rises c.requires.order.below (omega arith) in
    omega (arith, few, many c.args.moves.now, c.loop-place-test.true, c.requires.few)

pub bounds-places-moves : goal.bounds-places-moves
bounds-places-moves c = omega (arith, vertex_inside (length c.args.places.now) c.args.moves.now c.loop-place.place c.requires.order.below c.loop-place-test.true, c.loop-place.invariant.0)

pub loop-place-preserved : goal.loop-place-preserved
loop-place-preserved c =
    let n = length c.args.places.now in
    let ms = c.args.moves.now in
    let inside : c.loop-place.place < length (vertices c.args.moves.now) = omega (arith, many ms, c.loop-place-test.true) in
    let is = vertex_at ms c.loop-place.place c.loop-place-test.true in
    let low = vertex_inside n ms c.loop-place.place c.requires.order.below c.loop-place-test.true in (
      length-set _ _ _ ∙ c.loop-place.invariant.0,
      keeps_none n (vertices ms) c.loop-place.places c.loop-place.place (get_or ms c.loop-place.place no_move).vertex c.loop-place.place c.requires.order.rises inside is (omega (arith, low, c.loop-place.invariant.0)) c.loop-place.invariant.1,
      keeps_at n (vertices ms) c.loop-place.places c.loop-place.place (get_or ms c.loop-place.place no_move).vertex c.loop-place.place c.requires.order.rises inside is (omega (arith, low, c.loop-place.invariant.0)) (λ i. i) c.loop-place.invariant.2 refl,
    )

pub loop-place-init : goal.loop-place-init
loop-place-init c = (refl, clean_none _ (vertices c.args.moves.now) _ c.requires.clean, λ i h. absurd (omega arith))

pub returns : goal.returns
returns c = record {
  rises = c.requires.order.rises;
  below = c.requires.order.below;
  sized = c.loop-place.invariant.0;
  at = λ i h. c.loop-place.invariant.2 i (omega (arith, many c.args.moves.now, h, c.loop-place-test.false));
  none = c.loop-place.invariant.1;
}
