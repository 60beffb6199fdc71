use Rattle.std.proofs.Common.{ℕ, suc, ◌≡◌, ◌≤◌, ◌++◌, length, arith, add-one, subst}
use Rattle.kc_graph.specs.declared.limits.TheConstants.{MAX_EDGES}
use Rattle.kc_orient.specs.Shape.{out_neighbours}
use Rattle.kc_orient.proofs.Arcs.{arcs-below}
use Rattle.kc_orient.proofs.Filling.{IsFilling, filling_first, filling_more, filled_shape, filled_kept}
use Rattle.kc_orient.proofs.orienting.orient.Goals as goal
use Rattle.kc_orient.proofs.orienting.orient.Goals.{In_ok-copy}

pub loop-v-init : goal.loop-v-init
loop-v-init c = rw (c.in_ok-push.ensures.items, c.in_ok-starts.ensures.items, c.in_ok-heads.ensures.items) (filling_first c.args.graph.now c.args.levels.now)

pub overflow_cast-len : goal.overflow_cast-len
overflow_cast-len c =
    let g = c.args.graph.now in
    let x = c.args.levels.now in
    let row : c.push_above.new.list.items ≡ c.loop-v.heads.items ++ out_neighbours c.args.graph.now c.args.levels.now c.loop-v.v = rw (c.in_ok-push_above.ensures, c.as_slice.ensures, c.neighbours.ensures.value) in
    let filled = filling_more g x c.loop-v.v c.loop-v.starts.items c.loop-v.heads.items c.push_above.new.list.items c.loop-v.invariant row in
    let below : suc c.loop-v.v ≤ c.args.graph.now.vertices = omega arith in
    let few = arcs-below g x (suc c.loop-v.v) c.vertices-n.ensures.graph below in
    let most : length c.push_above.new.list.items ≤ MAX_EDGES = omega (arith, filled.count, few, c.edge_count.ensures.few) in
    omega (arith, c.len.ensures, c.push_above.new.list.ok, most)

pub loop-v-preserved : goal.loop-v-preserved
loop-v-preserved c =
    let row : c.push_above.new.list.items ≡ c.loop-v.heads.items ++ out_neighbours c.args.graph.now c.args.levels.now c.loop-v.v = rw (c.in_ok-push_above.ensures, c.as_slice.ensures, c.neighbours.ensures.value) in
    let long : c.len.result ≡ length c.push_above.new.list.items = omega (arith, c.len.ensures, c.push_above.new.list.ok) in
    rw (add-one, c.in_ok-push-2.ensures.items, long) (filling_more c.args.graph.now c.args.levels.now c.loop-v.v c.loop-v.starts.items c.loop-v.heads.items c.push_above.new.list.items c.loop-v.invariant row)

filled : (c : In_ok-copy) → IsFilling c.args.graph.now c.args.levels.now c.args.graph.now.vertices c.loop-v.starts.items c.loop-v.heads.items
filled c =
    let all : c.loop-v.v ≡ c.args.graph.now.vertices = omega arith in
    subst (λ (k : ℕ). IsFilling c.args.graph.now c.args.levels.now k c.loop-v.starts.items c.loop-v.heads.items) all c.loop-v.invariant

pub invariant_of-result : goal.invariant_of-result
invariant_of-result c = rw c.in_ok-copy.ensures (filled_kept c.args.graph.now c.args.levels.now c.loop-v.starts.items c.loop-v.heads.items c.vertices-n.ensures.graph c.requires c.vertices-n.ensures.small (filled c))

pub returns : goal.returns
returns c = rw c.in_ok-copy.ensures (filled_shape c.args.graph.now c.args.levels.now c.loop-v.starts.items c.loop-v.heads.items c.requires (filled c))
