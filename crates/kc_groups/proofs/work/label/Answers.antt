use Rattle.std.proofs.Common.{◌<◌, length, get_or, ap, sym, ◌∙◌, arith, refl}
use Rattle.std.proofs.lemmas.List.{length-set}
use Rattle.kc_groups.specs.Gathering.{vertices}
use Rattle.kc_groups.proofs.WorkLemmas.{no_move, vertex_at, vertex_inside, many, keeps_none, keeps_at}
use Rattle.kc_groups.proofs.work.label.Goals as goal
use Rattle.kc_groups.proofs.work.label.Goals.{then-up-place, else-up-place}

pub bounds-places-moves : goal.bounds-places-moves
bounds-places-moves c =
    let f = c.requires.forest.1 in
    let up : get_or c.args.parents.now c.loop-place.place 0 < length c.args.moves.now = omega (arith, f.up c.loop-place.place (omega (arith, c.requires.same, c.loop-place-test.true)), c.loop-place-test.true) in
    omega (arith, vertex_inside (length c.args.places.now) c.args.moves.now (get_or c.args.parents.now c.loop-place.place 0) c.requires.numbered.below up, c.loop-place.invariant.0)

pub bounds-places-v : goal.bounds-places-v
bounds-places-v c = omega (arith, vertex_inside (length c.args.places.now) c.args.moves.now c.loop-place.place c.requires.numbered.below c.loop-place-test.true, c.loop-place.invariant.0)

pub loop-place-init : goal.loop-place-init
loop-place-init c = (refl, c.requires.numbered.none, λ roots f i h. absurd (omega arith))

pub loop-place-preserved : goal.loop-place-preserved
loop-place-preserved c =
    let n = length c.args.places.now in
    let ms = c.args.moves.now in
    let vs = vertices ms in
    let k = c.loop-place.place in
    let ps = c.loop-place.places in
    let h : c.loop-place.place < length c.args.moves.now = c.loop-place-test.true in
    let inside : c.loop-place.place < length (vertices c.args.moves.now) = omega (arith, many ms, h) in
    let is = vertex_at ms k h in
    let low : (get_or c.args.moves.now c.loop-place.place no_move).vertex < length c.loop-place.places = omega (arith, vertex_inside n ms k c.requires.numbered.below h, c.loop-place.invariant.0) in
    elim c.if-up-place.branch [
      | then-up-place w ↦
          rw (w.places-is) (
            length-set _ _ _ ∙ c.loop-place.invariant.0,
            keeps_none n vs ps k (get_or ms k no_move).vertex _ c.requires.numbered.rises inside is low c.loop-place.invariant.1,
            λ roots f.
                let own = f.own k (omega (arith, c.requires.same, h)) w.if-up-place.true in
                keeps_at n vs ps k (get_or ms k no_move).vertex _ c.requires.numbered.rises inside is low (λ i. get_or vs (get_or roots i 0) 0) (c.loop-place.invariant.2 roots f) (is ∙ ap (λ i. get_or vs i 0) (sym own)),
          )
      | else-up-place w ↦
          rw (w.places-is) (
            length-set _ _ _ ∙ c.loop-place.invariant.0,
            keeps_none n vs ps k (get_or ms k no_move).vertex _ c.requires.numbered.rises inside is low c.loop-place.invariant.1,
            λ roots f.
                let at : c.loop-place.place < length c.args.parents.now = omega (arith, c.requires.same, h) in
                let up = get_or c.args.parents.now k 0 in
                let under : get_or c.args.parents.now c.loop-place.place 0 < c.loop-place.place = omega (arith, f.up k at, w.if-up-place.false) in
                let there : get_or c.args.parents.now c.loop-place.place 0 < length c.args.moves.now = omega (arith, under, h) in
                let up_is = vertex_at ms up there in
                keeps_at n vs ps k (get_or ms k no_move).vertex _ c.requires.numbered.rises inside is low (λ i. get_or vs (get_or roots i 0) 0) (c.loop-place.invariant.2 roots f)
                (ap (λ v. get_or ps v 0) up_is ∙ c.loop-place.invariant.2 roots f up under ∙ ap (λ i. get_or vs i 0) (f.same k at)),
          )
    ]

pub returns : goal.returns
returns c roots f = record {
  sized = c.loop-place.invariant.0;
  at = λ i h. c.loop-place.invariant.2 roots f i (omega (arith, many c.args.moves.now, h, c.loop-place-test.false));
  none = c.loop-place.invariant.1;
}
