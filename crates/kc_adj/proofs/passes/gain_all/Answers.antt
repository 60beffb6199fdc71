use Rattle.std.proofs.Common.{◌<◌, ◌-◌, get_or, ap, arith}
use Rattle.kc_graph.specs.Numbers.{RisesFrom}
use Rattle.kc_adj.specs.private.Lifting.{LiftShape}
use Rattle.kc_adj.proofs.LiftLemmas.{gaining_first, gaining_next, gaining_last}
use Rattle.kc_adj.proofs.PassLemmas.{touched_rise, touched_is, gained_by_touched, gains_stays}
use Rattle.kc_adj.proofs.passes.gain_all.Goals as goal

pub loop-w-init : goal.loop-w-init
loop-w-init c =
    let rises : RisesFrom 0 c.args.touched.now = rw c.requires.touched (touched_rise c.args.lift.now c.args.v (rw (← c.lift.view_is) c.lift.invariant)) in
    (gaining_first _ _ _ rises, gaining_first _ _ _ rises)

pub bounds-lift-inside-w : goal.bounds-lift-inside-w
bounds-lift-inside-w c =
    let low = (touched_is c.args.lift.now c.args.v (rw (← c.lift.view_is) c.lift.invariant) _ c.loop-w.w-index c.requires.touched (omega arith)).0 in
    omega (arith, rw (← c.lift.view_is) at low, c.lift.invariant.after)

pub loop-w-preserved : goal.loop-w-preserved
loop-w-preserved c =
    let at = touched_is c.args.lift.now c.args.v (rw (← c.lift.view_is) c.lift.invariant) _ c.loop-w.w-index c.requires.touched (omega arith) in
    let low : get_or c.args.touched.now c.loop-w.w-index 0 < c.args.lift.now.graph.vertices = at.0 in
    let level = ap (λ (l : LiftShape). get_or l.new (get_or c.args.touched.now c.loop-w.w-index 0) 0) c.lift.view_is in (
      rw c.gain.ensures.own (gaining_next _ _ _ _ _ c.loop-w.w-index (omega arith) c.loop-w.invariant.0 _ (omega (arith, low, c.requires.own.sized, c.loop-w.invariant.0.sized)) (gains_stays c.args.lift.now _ _ 0 _ _ _ (at.1) (omega (arith, level)))),
      rw c.gain.ensures.below (gaining_next _ _ _ _ _ c.loop-w.w-index (omega arith) c.loop-w.invariant.1 _ (omega (arith, low, c.requires.below.sized, c.loop-w.invariant.1.sized)) (gains_stays c.args.lift.now _ _ 1 _ _ _ (at.1) (ap (λ l. l - 1) level))),
    )

pub returns-clause-own : goal.returns-clause-own
returns-clause-own c = rw (← c.lift.view_is) (gained_by_touched _ c.args.v c.lift.invariant 0 _ _ (omega arith) (rw (← c.lift.view_is) at (rw c.requires.touched at (gaining_last _ _ c.args.touched.now _ _ c.loop-w.w-index (omega arith) c.loop-w.invariant.0))))

pub returns-clause-below : goal.returns-clause-below
returns-clause-below c = rw (← c.lift.view_is) (gained_by_touched _ c.args.v c.lift.invariant 1 _ _ (omega arith) (rw (← c.lift.view_is) at (rw c.requires.touched at (gaining_last _ _ c.args.touched.now _ _ c.loop-w.w-index (omega arith) c.loop-w.invariant.1))))
