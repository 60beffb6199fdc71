use Rattle.std.proofs.Common.{◌<◌, get_or, ap, ◌∙◌, arith, refl}
use Rattle.kc_levels.specs.LevelList.{at_least}
use Rattle.kc_adj.proofs.Moving.{moving_first, moving-few, some_at, recounted_at, count_next, count_last, moving_last, adjacency_moved}
use Rattle.kc_adj.proofs.moves.pass.Goals as goal

pub loop-w-init : goal.loop-w-init
loop-w-init g c = (
  rw c.neighbours-w-items.ensures.value (moving_first _ _ _ _ 0 _ c.requires.adjacency.graph c.requires.adjacency.own_counts),
  rw c.neighbours-w-items.ensures.value (moving_first _ _ _ _ 1 _ c.requires.adjacency.graph c.requires.adjacency.below_counts),
  refl,
  omega arith,
  refl,
  omega arith,
  omega arith,
)

pub recount-requires-clause-own_small : goal.recount-requires-clause-own_small
recount-requires-clause-own_small g c =
    let low : get_or c.neighbours-w-items.result.now c.loop-w.w-index 0 < c.args.graph.now.vertices = c.neighbours-w-items.ensures.below c.loop-w.w-index 0 (omega arith) in
    let few : get_or c.loop-w.counts.own.items (get_or c.neighbours-w-items.result.now c.loop-w.w-index 0) 0 < c.args.graph.now.vertices = moving-few _ _ _ _ 0 _ _ _ c.requires.adjacency.graph c.loop-w.invariant.0 low in
    omega (arith, few, c.requires.adjacency.small)

pub recount-requires-clause-below_small : goal.recount-requires-clause-below_small
recount-requires-clause-below_small g c =
    let low : get_or c.neighbours-w-items.result.now c.loop-w.w-index 0 < c.args.graph.now.vertices = c.neighbours-w-items.ensures.below c.loop-w.w-index 0 (omega arith) in
    let few : get_or c.loop-w.counts.below.items (get_or c.neighbours-w-items.result.now c.loop-w.w-index 0) 0 < c.args.graph.now.vertices = moving-few _ _ _ _ 1 _ _ _ c.requires.adjacency.graph c.loop-w.invariant.1 low in
    omega (arith, few, c.requires.adjacency.small)

pub recount-requires-clause-own_some : goal.recount-requires-clause-own_some
recount-requires-clause-own_some g c =
    let low : get_or c.neighbours-w-items.result.now c.loop-w.w-index 0 < c.args.graph.now.vertices = c.neighbours-w-items.ensures.below c.loop-w.w-index 0 (omega arith) in
    some_at _ _ _ _ 0 c.loop-w.counts.own.items c.neighbours-w-items.result.now c.loop-w.w-index _ (get_or c.args.levels.now (get_or c.neighbours-w-items.result.now c.loop-w.w-index 0) 0) c.requires.adjacency.graph c.requires.vertex c.requires.adjacency.sized c.loop-w.invariant.0 (omega arith) low c.requires.from (omega arith)

pub recount-requires-clause-below_some : goal.recount-requires-clause-below_some
recount-requires-clause-below_some g c =
    let low : get_or c.neighbours-w-items.result.now c.loop-w.w-index 0 < c.args.graph.now.vertices = c.neighbours-w-items.ensures.below c.loop-w.w-index 0 (omega arith) in
    some_at _ _ _ _ 1 c.loop-w.counts.below.items c.neighbours-w-items.result.now c.loop-w.w-index _ _ c.requires.adjacency.graph c.requires.vertex c.requires.adjacency.sized c.loop-w.invariant.1 (omega arith) low c.requires.from refl

pub loop-w-preserved : goal.loop-w-preserved
loop-w-preserved g c =
    let low : get_or c.neighbours-w-items.result.now c.loop-w.w-index 0 < c.args.graph.now.vertices = c.neighbours-w-items.ensures.below c.loop-w.w-index 0 (omega arith) in (
      rw c.recount.ensures.own (recounted_at _ _ _ _ 0 c.loop-w.counts.own.items c.neighbours-w-items.result.now c.loop-w.w-index _ (get_or c.args.levels.now (get_or c.neighbours-w-items.result.now c.loop-w.w-index 0) 0) c.requires.adjacency.graph c.requires.vertex c.requires.adjacency.sized c.loop-w.invariant.0 (omega arith) low c.requires.from (omega arith)),
      rw c.recount.ensures.below (recounted_at _ _ _ _ 1 c.loop-w.counts.below.items c.neighbours-w-items.result.now c.loop-w.w-index _ _ c.requires.adjacency.graph c.requires.vertex c.requires.adjacency.sized c.loop-w.invariant.1 (omega arith) low c.requires.from refl),
      count_next _ c.neighbours-w-items.result.now _ c.loop-w.w-index _ _ _ (omega arith) c.loop-w.invariant.2 refl c.as_one-own.ensures.value,
      omega (arith, c.loop-w.invariant.3, c.as_one-own.ensures.small),
      count_next _ c.neighbours-w-items.result.now _ c.loop-w.w-index _ _ _ (omega arith) c.loop-w.invariant.4 refl c.as_one-below.ensures.value,
      omega (arith, c.loop-w.invariant.5, c.as_one-below.ensures.small),
      omega (arith, c.loop-w.invariant.6),
    )

pub returns-clause-adjacency : goal.returns-clause-adjacency
returns-clause-adjacency g c =
    let own = moving_last _ _ _ _ 0 _ c.neighbours-w-items.result.now c.loop-w.w-index c.loop-w.invariant.0 (omega arith) in
    let below = moving_last _ _ _ _ 1 _ c.neighbours-w-items.result.now c.loop-w.w-index c.loop-w.invariant.1 (omega arith) in
    let first = count_last c.args.graph.now c.args.levels.now c.neighbours-w-items.result.now c.args.moved.vertex c.args.moved.new c.loop-w.w-index c.loop-w.own c.loop-w.invariant.2 (omega arith) c.neighbours-w-items.ensures.value in
    let under = count_last c.args.graph.now c.args.levels.now c.neighbours-w-items.result.now c.args.moved.vertex c.saturating_sub-under.result c.loop-w.w-index c.loop-w.below c.loop-w.invariant.4 (omega arith) c.neighbours-w-items.ensures.value in
    let second = under ∙ ap (at_least c.args.graph.now c.args.levels.now c.args.moved.vertex) c.saturating_sub-under.ensures in
    adjacency_moved c.args.graph.now c.args.levels.now c.args.moved.vertex c.args.moved.new _ _ _ _ c.requires.adjacency.graph c.requires.adjacency.small c.requires.vertex c.requires.adjacency.sized own below first second
