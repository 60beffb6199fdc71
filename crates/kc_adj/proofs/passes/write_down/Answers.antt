use Rattle.std.proofs.Common.{get_or, length, ap, ◌∙◌, arith, refl}
use Rattle.kc_graph.specs.Shape.{neighbours_of}
use Rattle.kc_adj.specs.declared.passes.Visit.{Visit}
use Rattle.kc_adj.specs.private.Lifting.{LiftShape, IsLift}
use Rattle.kc_adj.proofs.LiftLemmas.{lifting_few, lifting_next, cost_next}
use Rattle.kc_adj.proofs.PassLemmas.{visit_at}
use Rattle.kc_adj.proofs.passes.write_down.Goals as goal

pub run_of-touched-requires : goal.run_of-touched-requires
run_of-touched-requires g c =
    let visit = visit_at c.args.lift.now c.args.vertices.now c.args.passed.now c.loop-i.i c.loop-i.place c.index-visit.result.now c.requires.passed (omega arith) c.index-visit.ensures c.loop-i.invariant.2 in
    omega (arith, visit.within, ap length c.deref.ensures.value)

pub gain_all-requires-clause-own : goal.gain_all-requires-clause-own
gain_all-requires-clause-own g c = lifting_few c.args.lift.now 0 _ _ (rw (← c.lift.view_is) c.lift.invariant) c.loop-i.invariant.0

pub gain_all-requires-clause-below : goal.gain_all-requires-clause-below
gain_all-requires-clause-below g c = lifting_few c.args.lift.now 1 _ _ (rw (← c.lift.view_is) c.lift.invariant) c.loop-i.invariant.1

pub gain_all-requires-clause-touched : goal.gain_all-requires-clause-touched
gain_all-requires-clause-touched g c =
    let visit = visit_at c.args.lift.now c.args.vertices.now c.args.passed.now c.loop-i.i c.loop-i.place c.index-visit.result.now c.requires.passed (omega arith) c.index-visit.ensures c.loop-i.invariant.2 in
    visit.run _ (rw c.deref.ensures.value at c.run_of-touched.ensures)

pub overflow_add-place : goal.overflow_add-place
overflow_add-place g c =
    let visit = visit_at c.args.lift.now c.args.vertices.now c.args.passed.now c.loop-i.i c.loop-i.place c.index-visit.result.now c.requires.passed (omega arith) c.index-visit.ensures c.loop-i.invariant.2 in
    omega (arith, visit.within, ap length c.deref.ensures.value, c.deref.type_inv.0)

pub loop-i-preserved : goal.loop-i-preserved
loop-i-preserved g c =
    let is : IsLift c.args.lift.now = rw (← c.lift.view_is) c.lift.invariant in
    let visit = visit_at c.args.lift.now c.args.vertices.now c.args.passed.now c.loop-i.i c.loop-i.place c.index-visit.result.now c.requires.passed (omega arith) c.index-visit.ensures c.loop-i.invariant.2 in
    let v = get_or c.args.vertices.now c.loop-i.i 0 in
    let row = ap length c.neighbours.ensures.value ∙ ap (λ (l : LiftShape). length (neighbours_of v l.graph.edges)) c.lift.view_is in (
      lifting_next _ 0 c.loop-i.i _ _ _ _ _ _ is visit.here c.requires.vertices c.loop-i.invariant.0 c.gain_all.ensures.own (omega arith) (ap (λ (t : Visit). t.own) visit.is) c.renew.ensures.own,
      lifting_next _ 1 c.loop-i.i _ _ _ _ _ _ is visit.here c.requires.vertices c.loop-i.invariant.1 c.gain_all.ensures.below refl (ap (λ (t : Visit). t.below) visit.is) c.renew.ensures.below,
      visit.next,
      omega (arith, c.loop-i.invariant.3, cost_next c.args.lift.now c.args.vertices.now c.loop-i.i visit.here, row, c.add.ensures, c.tick.ensures),
    )
