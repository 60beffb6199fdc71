use Rattle.std.proofs.Common.{◌≡◌, ◌<◌, ◌≤◌, inl, inr, length, get_or, ap, ◌∙◌, arith}
use Rattle.kc_graph.proofs.lemmas.Numbers.{length-rising}
use Rattle.kc_graph.proofs.lemmas.Changes.{inside_from_ascending}
use Rattle.kc_graph.specs.Shape.{Pair}
use Rattle.kc_groups.specs.private.Forest.{merged}
use Rattle.kc_groups.specs.Gathering.{vertices}
use Rattle.kc_groups.proofs.WorkLemmas.{many}
use Rattle.kc_groups.proofs.LinkLemmas.{edges_first, edges_last, edge_past, edge_link}
use Rattle.kc_groups.proofs.linking.join_ends.Goals as goal
use Rattle.kc_groups.proofs.linking.join_ends.Goals.{then-first-m+then-second-m, else-first-m, else-first-m-via-then-first-m+else-second-m, else-first-m-via-else-first-m}

pub loop-e-init : goal.loop-e-init
loop-e-init c = (
  c.requires.many,
  c.requires.forest,
  λ before g. edges_first before (vertices c.args.moves.now) (length c.args.moves.now) c.args.edges.now c.args.parents.now g,
)

pub bounds-places-e-inside : goal.bounds-places-e-inside
bounds-places-e-inside c =
    let item : c.e-item.result ≡ get_or c.args.edges.now c.loop-e.e-index c.e-item.result = c.e-item.is in
    let a : c.e.inside.a ≡ (get_or c.args.edges.now c.loop-e.e-index c.e-item.result).0 = ap (λ (e : Pair). e.0) (c.e.view_is ∙ item) in
    let low = inside_from_ascending (length c.args.places.now) 0 0 c.args.edges.now c.requires.ascending c.loop-e.e-index c.e-item.result c.loop-e-test.true in
    omega (arith, a, low.0, low.1)

pub bounds-places-e-inside-in-loop-e : goal.bounds-places-e-inside-in-loop-e
bounds-places-e-inside-in-loop-e c =
    let item : c.e-item.result ≡ get_or c.args.edges.now c.loop-e.e-index c.e-item.result = c.e-item.is in
    let b : c.e.inside.b ≡ (get_or c.args.edges.now c.loop-e.e-index c.e-item.result).1 = ap (λ (e : Pair). e.1) (c.e.view_is ∙ item) in
    let low = inside_from_ascending (length c.args.places.now) 0 0 c.args.edges.now c.requires.ascending c.loop-e.e-index c.e-item.result c.loop-e-test.true in
    omega (arith, b, low.1)

pub loop-e-preserved : goal.loop-e-preserved
loop-e-preserved c =
    let old = c.loop-e.invariant in
    let vs = vertices c.args.moves.now in
    let m = length c.args.moves.now in
    let edges = c.args.edges.now in
    let places = c.args.places.now in
    let n = length c.args.places.now in
    let now = c.loop-e.parents in
    let k = c.loop-e.e-index in
    let d = c.e-item.result in
    let item : c.e-item.result ≡ get_or c.args.edges.now c.loop-e.e-index c.e-item.result = c.e-item.is in
    let first : get_or c.args.places.now c.e.inside.a 0 ≡ get_or c.args.places.now (get_or c.args.edges.now c.loop-e.e-index c.e-item.result).0 0 = ap (λ (e : Pair). get_or places e.0 0) (c.e.view_is ∙ item) in
    let second : get_or c.args.places.now c.e.inside.b 0 ≡ get_or c.args.places.now (get_or c.args.edges.now c.loop-e.e-index c.e-item.result).1 0 = ap (λ (e : Pair). get_or places e.1 0) (c.e.view_is ∙ item) in
    let few : length (vertices c.args.moves.now) ≤ length c.args.places.now = omega (arith, length-rising (length c.args.places.now) 0 vs c.requires.numbered.rises c.requires.numbered.below (omega arith)) in
    let at = inside_from_ascending n 0 0 edges c.requires.ascending k d c.loop-e-test.true in
    let low : ((get_or c.args.edges.now c.loop-e.e-index c.e-item.result).0 < length c.args.places.now) × ((get_or c.args.edges.now c.loop-e.e-index c.e-item.result).1 < length c.args.places.now) = (omega (arith, at.0, at.1), at.1) in
    elim c.if-first-m.branch [
      | then-first-m+then-second-m w ↦
          rw (w.parents-is) (
            w.join.ensures.sized ∙ old.0,
            (merged (get_or places c.e.inside.a 0) (get_or places c.e.inside.b 0) old.1.0, w.join.ensures.forest old.1.0 old.1.1),
            λ before g.
                let so_far = old.2 before g in
                edge_link before vs m edges now n places c.requires.numbered few (many c.args.moves.now) k d c.loop-e-test.true low so_far _ _ _ first second w.if-first-m.true w.if-second-m.true w.join.ensures.sized (w.join.ensures.forest so_far.roots so_far.forest),
          )
      | else-first-m w ↦
          rw (w.parents-is) (
            old.0,
            old.1,
            λ before g. edge_past before vs m edges now n places c.requires.numbered few (many c.args.moves.now) k d c.loop-e-test.true low (old.2 before g) (elim w.else-first-m.branch [
              | else-first-m-via-then-first-m+else-second-m w' ↦ inr (omega (arith, second, w'.if-second-m.false))
              | else-first-m-via-else-first-m w' ↦ inl (omega (arith, first, w'.if-first-m.false))
            ]),
          )
    ]

pub returns : goal.returns
returns c before g = edges_last before (vertices c.args.moves.now) (length c.args.moves.now) c.args.edges.now c.loop-e.parents c.loop-e.e-index (omega arith) (c.loop-e.invariant.2 before g)
