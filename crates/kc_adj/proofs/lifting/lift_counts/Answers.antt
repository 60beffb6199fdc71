use Rattle.std.proofs.Common.{length, get_or, ap, ◌∙◌, arith, refl}
use Rattle.kc_graph.specs.Shape.{neighbours_of}
use Rattle.kc_adj.specs.private.Lifting.{LiftShape, IsLift}
use Rattle.kc_adj.proofs.LiftLemmas.{lifting_first, lifting_few, lifting_next, lifting_last, cost_next, cost_last}
use Rattle.kc_adj.proofs.lifting.lift_counts.Goals as goal

pub loop-i-init : goal.loop-i-init
loop-i-init g c =
    let is : IsLift c.args.lift.now = rw (← c.lift.view_is) c.lift.invariant in (
      lifting_first _ 0 _ _ is c.requires.vertices c.requires.adjacency.own_counts,
      lifting_first _ 1 _ _ is c.requires.vertices c.requires.adjacency.below_counts,
      omega arith,
    )

pub pass-own-requires-clause-own : goal.pass-own-requires-clause-own
pass-own-requires-clause-own g c = lifting_few c.args.lift.now 0 _ _ (rw (← c.lift.view_is) c.lift.invariant) c.loop-i.invariant.0

pub pass-own-requires-clause-below : goal.pass-own-requires-clause-below
pass-own-requires-clause-below g c = lifting_few c.args.lift.now 1 _ _ (rw (← c.lift.view_is) c.lift.invariant) c.loop-i.invariant.1

pub loop-i-preserved : goal.loop-i-preserved
loop-i-preserved g c =
    let is : IsLift c.args.lift.now = rw (← c.lift.view_is) c.lift.invariant in
    let v = get_or c.args.vertices.now c.loop-i.i 0 in
    let row = ap length c.neighbours.ensures.value ∙ ap (λ u. length (neighbours_of u c.lift.inside.graph.now.edges)) c.vertex_with_prefetch-v.ensures ∙ ap (λ (l : LiftShape). length (neighbours_of v l.graph.edges)) c.lift.view_is in (
      lifting_next _ 0 c.loop-i.i _ _ _ _ _ _ is c.loop-i-test.true c.requires.vertices.inside c.loop-i.invariant.0 (rw c.vertex_with_prefetch-v.ensures at c.pass-own.ensures.own) (omega arith) (rw c.vertex_with_prefetch-v.ensures at c.pass-own.ensures.first) (rw c.vertex_with_prefetch-v.ensures at c.renew.ensures.own),
      lifting_next _ 1 c.loop-i.i _ _ _ _ _ _ is c.loop-i-test.true c.requires.vertices.inside c.loop-i.invariant.1 (rw c.vertex_with_prefetch-v.ensures at c.pass-own.ensures.below) refl (rw c.vertex_with_prefetch-v.ensures at c.pass-own.ensures.second) (rw c.vertex_with_prefetch-v.ensures at c.renew.ensures.below),
      omega (arith, c.loop-i.invariant.2, cost_next c.args.lift.now c.args.vertices.now c.loop-i.i c.loop-i-test.true, row, c.add.ensures, c.tick.ensures),
    )

pub returns-clause-adjacency : goal.returns-clause-adjacency
returns-clause-adjacency g c =
    let is : IsLift c.args.lift.now = rw (← c.lift.view_is) c.lift.invariant in
    record {
      graph = is.graph;
      small = is.small;
      sized = is.after;
      own_counts = lifting_last _ 0 c.loop-i.i c.args.vertices.now _ (omega arith) is c.loop-i.invariant.0;
      below_counts = lifting_last _ 1 c.loop-i.i c.args.vertices.now _ (omega arith) is c.loop-i.invariant.1;
    }

pub returns-clause-cost : goal.returns-clause-cost
returns-clause-cost g c = omega (arith, c.loop-i.invariant.2, cost_last c.args.lift.now c.args.vertices.now c.loop-i.i (omega arith))
