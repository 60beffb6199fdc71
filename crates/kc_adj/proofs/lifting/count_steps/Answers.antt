use Rattle.std.proofs.Common.{get_or, length, ap, ◌∙◌, arith}
use Rattle.kc_graph.specs.Shape.{neighbours_of}
use Rattle.kc_adj.specs.private.Lifting.{LiftShape}
use Rattle.kc_adj.proofs.LiftLemmas.{cost_next, cost_last}
use Rattle.kc_adj.proofs.lifting.count_steps.Goals as goal

pub loop-v-preserved : goal.loop-v-preserved
loop-v-preserved g c =
    let v = get_or c.args.vertices.now c.loop-v.v-index 0 in
    let row = ap length c.neighbours.ensures.value ∙ ap (λ (l : LiftShape). length (neighbours_of v l.graph.edges)) c.lift.view_is in
    omega (arith, c.loop-v.invariant, cost_next c.args.lift.now c.args.vertices.now c.loop-v.v-index (omega arith), row, c.add.ensures, c.tick.ensures)

pub returns : goal.returns
returns g c = omega (arith, c.loop-v.invariant, cost_last c.args.lift.now c.args.vertices.now c.loop-v.v-index (omega arith))
