use Rattle.std.proofs.Common.{length, get_or, refl, sym, ap, ◌∙◌, subst, arith}
use Rattle.std.proofs.lemmas.Bool.{true≢false}
use Rattle.kc_graph.specs.Numbers.{has_number}
use Rattle.kc_graph.proofs.lemmas.Numbers.{has_number_at}
use Rattle.kc_insert.proofs.Staying.{IsLettingStay, letting_first, letting_stays, letting_passes, letting_last}
use Rattle.kc_insert.proofs.range.stop_watched.Goals as goal
use Rattle.kc_insert.proofs.range.stop_watched.Goals.{then-rises+then-count-most+in_ok-push, else-rises, else-rises-via-then-rises+else-count-most, else-rises-via-else-rises}

pub loop-v-init : goal.loop-v-init
loop-v-init c = letting_first c.args.levels.now c.args.watched.now _ _ c.clear.ensures.items

pub rises-requires : goal.rises-requires
rises-requires c =
    let there = has_number_at (get_or c.doubtful-doubtful.result.now c.loop-v.v-index 0) c.doubtful-doubtful.result.now c.loop-v.v-index c.loop-v-test.true refl in
    let inside = c.requires.inside _ (ap (has_number (get_or c.doubtful-doubtful.result.now c.loop-v.v-index 0)) (sym c.doubtful-doubtful.ensures) ∙ there) in
    rw c.loop-v.invariant.seen_on inside.0

pub count-requires : goal.count-requires
count-requires c =
    let there = has_number_at (get_or c.doubtful-doubtful.result.now c.loop-v.v-index 0) c.doubtful-doubtful.result.now c.loop-v.v-index c.loop-v-test.true refl in
    (c.requires.inside _ (ap (has_number (get_or c.doubtful-doubtful.result.now c.loop-v.v-index 0)) (sym c.doubtful-doubtful.ensures) ∙ there)).1

pub loop-v-preserved : goal.loop-v-preserved
loop-v-preserved c = elim c.if-rises.branch [
  | then-rises+then-count-most+in_ok-push w ↦
      rw (w.levels-is, w.stay-is, w.in_ok-push.ensures.items)
      (letting_stays _ _ _ _ _ _ c.loop-v.invariant _ (has_number_at (get_or c.doubtful-doubtful.result.now c.loop-v.v-index 0) c.doubtful-doubtful.result.now c.loop-v.v-index c.loop-v-test.true refl) w.stop.ensures.level w.stop.ensures.seen w.stop.ensures.rises (sym c.rises.ensures ∙ w.if-rises.true) (omega (arith, w.count.ensures, w.if-count-most.true, c.most-most.ensures)))
  | else-rises w ↦
      rw (w.levels-is, w.stay-is)
      (letting_passes _ _ _ _ _ _ c.loop-v.invariant (elim w.else-rises.branch [
        | else-rises-via-then-rises+else-count-most b ↦ λ on. omega (arith, b.count.ensures, b.if-count-most.false, c.most-most.ensures)
        | else-rises-via-else-rises b ↦ λ on. absurd (true≢false (sym on ∙ sym c.rises.ensures ∙ b.if-rises.false))
      ]))
]

pub returns-clause-stay : goal.returns-clause-stay
returns-clause-stay c =
    let s = subst (λ listed. IsLettingStay c.args.levels.now c.args.watched.now listed c.loop-v.v-index c.loop-v.levels c.loop-v.stay.items) c.doubtful-doubtful.ensures c.loop-v.invariant in
    letting_last c.args.levels.now c.args.watched.now c.loop-v.v-index c.loop-v.levels c.loop-v.stay.items (omega (arith, c.loop-v-test.false, ap length c.doubtful-doubtful.ensures)) s
