use Rattle.std.proofs.Common.{◌≡◌, ◌<◌, ◌≤◌, inl, inr, length, get_or, refl, ap, sym, subst, ◌∙◌, arith}
use Rattle.kc_graph.specs.Shape.{neighbours_of}
use Rattle.kc_graph.proofs.lemmas.Numbers.{length-rising}
use Rattle.kc_groups.specs.private.Forest.{IsForest, merged}
use Rattle.kc_groups.specs.Gathering.{vertices}
use Rattle.kc_groups.proofs.ForestLemmas.{merged_near, joined_still}
use Rattle.kc_groups.proofs.WorkLemmas.{vertex_at, vertex_inside, many}
use Rattle.kc_groups.proofs.LinkLemmas.{row_first, row_last, row_past, row_link}
use Rattle.kc_groups.proofs.linking.link_row.Goals as goal
use Rattle.kc_groups.proofs.linking.link_row.Goals.{then-other-place, else-other-place}

pub neighbours-w-items-requires : goal.neighbours-w-items-requires
neighbours-w-items-requires c = omega (arith, c.vertex_with_prefetch-v.ensures, vertex_at c.args.moves.now c.args.place c.requires.inside, vertex_inside c.args.graph.now.vertices c.args.moves.now c.args.place c.requires.numbered.below c.requires.inside)

pub loop-w-init : goal.loop-w-init
loop-w-init c = (
  c.requires.many,
  c.requires.forest,
  omega (arith, c.requires.many, c.requires.inside),
  λ roots f. refl,
  λ before g. row_first before (vertices c.args.moves.now) c.args.place c.neighbours-w-items.result.now c.args.parents.now g,
)

pub join-tree-requires-clause-first : goal.join-tree-requires-clause-first
join-tree-requires-clause-first c = c.loop-w.invariant.2

pub join-tree-requires-clause-second : goal.join-tree-requires-clause-second
join-tree-requires-clause-second c = omega (arith, c.loop-w.invariant.0, c.requires.inside, c.if-other-place.true)

pub loop-w-preserved : goal.loop-w-preserved
loop-w-preserved c =
    let old = c.loop-w.invariant in
    let place = c.args.place in
    let n = c.args.graph.now.vertices in
    let vs = vertices c.args.moves.now in
    let places = c.args.places.now in
    let items = c.neighbours-w-items.result.now in
    let now = c.loop-w.parents in
    let few : length (vertices c.args.moves.now) ≤ c.args.graph.now.vertices = omega (arith, length-rising c.args.graph.now.vertices 0 vs c.requires.numbered.rises c.requires.numbered.below (omega arith)) in
    let h : c.args.place < length (vertices c.args.moves.now) = omega (arith, many c.args.moves.now, c.requires.inside) in
    let inside : c.loop-w.w-index < length c.neighbours-w-items.result.now = omega arith in
    let below : get_or c.neighbours-w-items.result.now c.loop-w.w-index 0 < c.args.graph.now.vertices = c.neighbours-w-items.ensures.below c.loop-w.w-index 0 inside in
    let other = get_or places (get_or items c.loop-w.w-index 0) 0 in
    elim c.if-other-place.branch [
      | then-other-place w ↦
          let tree = c.loop-w.tree in
          rw (w.parents-is, w.tree-is) (
            w.join-tree.ensures.sized ∙ old.0,
            (merged tree other old.1.0, w.join-tree.ensures.forest old.1.0 old.1.1),
            omega (arith, w.join-tree.ensures.inside, w.join-tree.ensures.sized),
            λ roots f.
                let sized = old.1.1.sized in
                joined_still old.1.0 _ roots tree other (w.join-tree.ensures.forest old.1.0 old.1.1) f (omega (arith, sized, old.2)) place (omega (arith, sized, old.0, c.requires.inside)) (old.3 old.1.0 old.1.1) ∙ sym (w.join-tree.ensures.same roots f),
            λ before g.
                let so_far = old.4 before g in
                row_link before vs place items now n places c.requires.numbered few h c.loop-w.w-index inside below so_far _ other refl w.if-other-place.true w.join-tree.ensures.sized
                (subst (IsForest w.join-tree.new.parents) (sym (merged_near so_far.roots tree other place (old.3 so_far.roots so_far.forest))) (w.join-tree.ensures.forest so_far.roots so_far.forest)),
          )
      | else-other-place w ↦
          let high : c.args.place ≤ get_or c.args.places.now (get_or c.neighbours-w-items.result.now c.loop-w.w-index 0) 0 = omega (arith, w.if-other-place.false) in
          rw (w.parents-is, w.tree-is) (
            old.0,
            old.1,
            old.2,
            old.3,
            λ before g. row_past before vs place items now n places c.requires.numbered few h c.loop-w.w-index inside below (old.4 before g) high,
          )
    ]

pub returns : goal.returns
returns c before g =
    let ms = c.args.moves.now in
    let vs = vertices c.args.moves.now in
    let is : c.neighbours-w-items.result.now ≡ neighbours_of (get_or (vertices c.args.moves.now) c.args.place 0) c.args.graph.now.edges = c.neighbours-w-items.ensures.value ∙ ap (λ v. neighbours_of v c.args.graph.now.edges) c.vertex_with_prefetch-v.ensures in
    rw (many ms) at (row_last before vs c.args.place c.neighbours-w-items.result.now c.loop-w.parents c.args.graph.now c.loop-w.w-index c.requires.numbered.rises c.neighbours-w-items.ensures.ascending (omega (arith, many ms, c.requires.inside)) (inl (omega arith)) is (c.loop-w.invariant.4 before (rw (many ms) g)))

pub returns-then-w-v : goal.returns-then-w-v
returns-then-w-v c before g =
    let ms = c.args.moves.now in
    let vs = vertices c.args.moves.now in
    let is : c.neighbours-w-items.result.now ≡ neighbours_of (get_or (vertices c.args.moves.now) c.args.place 0) c.args.graph.now.edges = c.neighbours-w-items.ensures.value ∙ ap (λ v. neighbours_of v c.args.graph.now.edges) c.vertex_with_prefetch-v.ensures in
    let cut : get_or (vertices c.args.moves.now) c.args.place 0 ≤ get_or c.neighbours-w-items.result.now c.loop-w.w-index 0 = omega (arith, c.vertex_with_prefetch-v.ensures, c.if-w-v.true) in
    rw (many ms) at (row_last before vs c.args.place c.neighbours-w-items.result.now c.loop-w.parents c.args.graph.now c.loop-w.w-index c.requires.numbered.rises c.neighbours-w-items.ensures.ascending (omega (arith, many ms, c.requires.inside)) (inr (omega arith, cut)) is (c.loop-w.invariant.4 before (rw (many ms) g)))
