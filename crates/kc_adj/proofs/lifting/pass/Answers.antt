use Rattle.std.proofs.Common.{◌<◌, get_or, ap, ◌∙◌, arith, refl}
use Rattle.kc_levels.specs.LevelList.{at_least}
use Rattle.kc_adj.specs.private.Lifting.{LiftShape}
use Rattle.kc_adj.proofs.Moving.{count_next, count_last}
use Rattle.kc_adj.proofs.LiftLemmas.{gaining_first, gaining_next, gaining_last}
use Rattle.kc_adj.proofs.lifting.pass.Goals as goal

pub loop-w-init : goal.loop-w-init
loop-w-init c = (
  gaining_first _ _ _ c.neighbours-w-items.ensures.ascending,
  gaining_first _ _ _ c.neighbours-w-items.ensures.ascending,
  refl,
  omega arith,
  refl,
  omega arith,
)

pub loop-w-preserved : goal.loop-w-preserved
loop-w-preserved c =
    let low : get_or c.neighbours-w-items.result.now c.loop-w.w-index 0 < c.lift.inside.graph.now.vertices = c.neighbours-w-items.ensures.below c.loop-w.w-index 0 (omega arith) in
    let own = (rw (← c.lift.view_is) at c.requires.own).sized in
    let below = (rw (← c.lift.view_is) at c.requires.below).sized in
    let level = ap (λ (l : LiftShape). get_or l.new (get_or c.neighbours-w-items.result.now c.loop-w.w-index 0) 0) c.lift.view_is in (
      rw c.gain_unmoved.ensures.own (gaining_next _ _ _ _ _ c.loop-w.w-index (omega arith) c.loop-w.invariant.0 _ (omega (arith, low, own, c.loop-w.invariant.0.sized)) refl),
      rw c.gain_unmoved.ensures.below (gaining_next _ _ _ _ _ c.loop-w.w-index (omega arith) c.loop-w.invariant.1 _ (omega (arith, low, below, c.loop-w.invariant.1.sized)) refl),
      count_next _ c.neighbours-w-items.result.now _ c.loop-w.w-index _ _ _ (omega arith) c.loop-w.invariant.2 level c.as_one-own.ensures.value,
      omega (arith, c.loop-w.invariant.3, c.as_one-own.ensures.small),
      count_next _ c.neighbours-w-items.result.now _ c.loop-w.w-index _ _ _ (omega arith) c.loop-w.invariant.4 level c.as_one-below.ensures.value,
      omega (arith, c.loop-w.invariant.5, c.as_one-below.ensures.small),
    )

pub returns-clause-own : goal.returns-clause-own
returns-clause-own c = rw (← c.lift.view_is) (rw c.neighbours-w-items.ensures.value at (rw (← c.lift.view_is) at (gaining_last _ _ c.neighbours-w-items.result.now _ _ c.loop-w.w-index (omega arith) c.loop-w.invariant.0)))

pub returns-clause-first : goal.returns-clause-first
returns-clause-first c = rw (← c.lift.view_is) (count_last c.lift.inside.graph.now c.lift.inside.new.now c.neighbours-w-items.result.now c.args.v _ c.loop-w.w-index c.loop-w.own (rw (← c.lift.view_is) at c.loop-w.invariant.2) (omega arith) c.neighbours-w-items.ensures.value)

pub returns-clause-second : goal.returns-clause-second
returns-clause-second c =
    let count = count_last c.lift.inside.graph.now c.lift.inside.new.now c.neighbours-w-items.result.now c.args.v c.saturating_sub-under.result c.loop-w.w-index c.loop-w.below (rw (← c.lift.view_is) at c.loop-w.invariant.4) (omega arith) c.neighbours-w-items.ensures.value in
    rw (← c.lift.view_is) (count ∙ ap (at_least c.lift.inside.graph.now c.lift.inside.new.now c.args.v) c.saturating_sub-under.ensures)
