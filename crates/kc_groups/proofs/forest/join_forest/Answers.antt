use Rattle.std.proofs.Common.{◌≡◌, ◌<◌, length, get_or, sym, ◌∙◌, arith}
use Rattle.kc_groups.specs.private.Forest.{merged}
use Rattle.kc_groups.proofs.ForestLemmas.{parents_first, parents_more, parents_last}
use Rattle.kc_groups.proofs.forest.join_forest.Goals as goal

pub loop-place-init : goal.loop-place-init
loop-place-init c = (
  sym c.requires.same,
  c.requires.forest,
  λ before g. parents_first (length c.args.others.now) before c.args.others.now c.args.parents.now g,
)

pub join-requires-clause-second : goal.join-requires-clause-second
join-requires-clause-second c = omega (arith, c.requires.others.1.up c.loop-place.place (omega arith), c.loop-place.invariant.0)

pub loop-place-preserved : goal.loop-place-preserved
loop-place-preserved c =
    let old = c.loop-place.invariant in
    let others = c.args.others.now in
    let k = c.loop-place.place in
    let low : get_or c.args.others.now c.loop-place.place 0 < length c.args.others.now = omega (arith, c.requires.others.1.up k (omega arith)) in (
      c.join.ensures.sized ∙ old.0,
      (merged k (get_or others k 0) old.1.0, c.join.ensures.forest old.1.0 old.1.1),
      λ before g.
          let so_far = old.2 before g in
          parents_more (length others) before others c.loop-place.parents k (omega arith) low so_far _ c.join.ensures.sized (c.join.ensures.forest so_far.roots so_far.forest),
    )

pub returns : goal.returns
returns c linked l before g =
    let all : c.loop-place.place ≡ length c.args.others.now = omega arith in
    parents_last (length c.args.others.now) before c.args.others.now c.loop-place.parents linked l (rw all at (c.loop-place.invariant.2 before g))
