use Rattle.std.proofs.Common.{◌≡◌, ◌+◌, ◌<◌, refl, arith}
use Rattle.kc_dense.proofs.WalkLemmas.{IsWalk, walk_first, walk_some, walk_compared, walk_edges, walk_taken, walk_last, best_densest}
use Rattle.kc_dense.proofs.peeling.peel.Goals as goal

pub loop-first-init : goal.loop-first-init
loop-first-init c =
    rw c.in_ok-order.ensures.items
    (walk_first _ _ _ c.vertices-n.ensures.graph c.vertices-n.ensures.positive c.in_ok-degrees.ensures.remaining c.in_ok-degrees.ensures.all c.edge_count-edges.ensures.count)

pub take_next-taken-requires-clause-some : goal.take_next-taken-requires-clause-some
take_next-taken-requires-clause-some c = walk_some c.args.graph.now c.loop-first.first _ _ _ _ _ c.loop-first.invariant (omega (arith, c.vertices-n.ensures.count))

pub overflow_sub-edges : goal.overflow_sub-edges
overflow_sub-edges c =
    omega (arith, c.take_next-taken.ensures.degree, walk_edges _ _ _ _ _ _ _ c.take_next-taken.result.vertex c.vertices-n.ensures.graph c.loop-first.invariant c.take_next-taken.ensures.next.holds)

pub loop-first-preserved : goal.loop-first-preserved
loop-first-preserved c =
    let g = c.args.graph.now in
    let i = c.loop-first.first in
    let lt : i < g.vertices = omega (arith, c.vertices-n.ensures.count) in
    let compared = walk_compared g i _ _ _ c.loop-first.densest (record { first = i; edges = c.loop-first.edges }) lt refl refl c.loop-first.invariant in
    let denser = rw c.vertices-n.ensures.count at c.denser-densest.ensures in
    rw (c.in_ok-push.ensures.items, c.take_next-taken.ensures.degree, denser)
    (walk_taken g i (i + 1) _ c.take_next-taken.new.degrees _ _ _ c.take_next-taken.result.vertex c.vertices-n.ensures.graph compared c.take_next-taken.ensures.next c.take_next-taken.ensures.others c.take_next-taken.ensures.remaining (omega arith))

ends : (c : goal.After-drop-degrees-inside-2) → IsWalk c.args.graph.now c.args.graph.now.vertices c.args.graph.now.vertices c.loop-first.degrees c.loop-first.order.items c.loop-first.edges c.loop-first.densest
ends c =
    let all : c.loop-first.first ≡ c.args.graph.now.vertices = omega (arith, c.vertices-n.ensures.count) in
    rw all at c.loop-first.invariant

pub returns-clause-peeled : goal.returns-clause-peeled
returns-clause-peeled c = (walk_last _ _ _ _ _ (ends c)).0

pub returns-clause-densest : goal.returns-clause-densest
returns-clause-densest c = let last = walk_last _ _ _ _ _ (ends c) in best_densest _ _ _ last.0 last.1

pub returns-clause-edges : goal.returns-clause-edges
returns-clause-edges c = (walk_last _ _ _ _ _ (ends c)).1.edges
