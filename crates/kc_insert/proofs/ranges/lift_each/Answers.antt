use Rattle.std.proofs.Common.{ℕ, List, [], ◌∷◌, ◌++◌, get_or, ap, sym, ◌∙◌, arith}
use Rattle.kc_insert.specs.Ranges.{Part, range_of}
use Rattle.kc_insert.proofs.Beginners.{starting_begins, starting_first, starting_inside, starting_last, starting_passes, starting_place}
use Rattle.kc_insert.proofs.ranges.lift_each.Goals.{then-get-level+in_ok-push, else-get-level}
use Rattle.kc_insert.proofs.ranges.lift_each.Goals as goal

pub loop-v-init : goal.loop-v-init
loop-v-init c = starting_first c.args.level c.args.levels.now c.args.vertices.now c.args.layout.width c.args.items.now c.requires

pub get-requires : goal.get-requires
get-requires c = starting_inside _ _ _ _ _ _ _ _ _ c.loop-v-test.true c.requires c.loop-v.invariant

pub begin-requires : goal.begin-requires
begin-requires c = starting_inside _ _ _ _ _ _ _ _ _ c.loop-v-test.true c.requires c.loop-v.invariant

pub bounds-items-range_of : goal.bounds-items-range_of
bounds-items-range_of c = omega (arith, c.range_of.ensures, starting_place _ _ _ _ _ _ _ _ _ c.loop-v-test.true c.requires c.loop-v.invariant)

pub overflow_add-count : goal.overflow_add-count
overflow_add-count c = omega (arith, c.loop-v.invariant.few, c.loop-v-test.true, c.loop-v.auto.v-index-end)

pub loop-v-preserved : goal.loop-v-preserved
loop-v-preserved c = elim c.if-get-level.branch [
  | then-get-level+in_ok-push w ↦
      let place = range_of c.args.layout.width (get_or c.args.vertices.now c.loop-v.v-index 0) in
      let here = w.range.view_is ∙ ap (λ k. get_or c.loop-v.items k w.index-items-range_of.result) w.range_of.ensures in
      rw (w.levels-is, w.items-is, w.count-is, w.range_of.ensures) (starting_begins _ _ _ _ _ _ _ _ _ c.loop-v-test.true c.requires c.loop-v.invariant _ _ w.index-items-range_of.result (sym c.get.ensures ∙ w.if-get-level.true) w.begin.ensures.level w.begin.ensures.seen w.begin.ensures.rises
      (ap (λ (p : Part). record p { begun = w.push.new.self.items }) here ∙ ap (λ (vs : List ℕ). record (get_or c.loop-v.items place w.index-items-range_of.result) { begun = vs }) (w.in_ok-push.ensures.items ∙ ap (λ (p : Part). p.begun ++ get_or c.args.vertices.now c.loop-v.v-index 0 ∷ []) here)))
  | else-get-level w ↦ rw (w.levels-is, w.items-is, w.count-is) (starting_passes _ _ _ _ _ _ _ _ _ c.loop-v-test.true c.requires c.loop-v.invariant (λ e. w.if-get-level.false (c.get.ensures ∙ e)))
]

pub returns-clause-lifted : goal.returns-clause-lifted
returns-clause-lifted c = starting_last _ _ _ _ _ _ _ _ _ (omega (arith, c.loop-v-test.false)) c.requires c.loop-v.invariant
