use Rattle.std.proofs.Common.{◌<◌, length, get_or, sym, ◌∙◌, arith}
use Rattle.std.proofs.lemmas.List.{length-set}
use Rattle.kc_groups.proofs.ForestLemmas.{forest_up}
use Rattle.kc_groups.proofs.forest.find.Goals as goal

pub loop-parents-smaller : goal.loop-parents-smaller
loop-parents-smaller c =
    let ps = c.loop-parents.parents in
    let at = c.loop-parents.at in
    let f = (c.loop-parents.invariant.2 c.requires.forest.0 c.requires.forest.1).0 in
    let h : c.loop-parents.at < length c.loop-parents.parents = c.loop-parents.invariant.0 in
    let inside : get_or c.loop-parents.parents c.loop-parents.at 0 < length c.loop-parents.parents = omega (arith, f.up at h, h) in
    omega (arith, f.up (get_or ps at 0) inside, f.up at h, c.loop-parents-test.true)

pub loop-parents-preserved : goal.loop-parents-preserved
loop-parents-preserved c =
    let ps = c.loop-parents.parents in
    let at = c.loop-parents.at in
    let f = (c.loop-parents.invariant.2 c.requires.forest.0 c.requires.forest.1).0 in
    let h : c.loop-parents.at < length c.loop-parents.parents = c.loop-parents.invariant.0 in
    let inside : get_or c.loop-parents.parents c.loop-parents.at 0 < length c.loop-parents.parents = omega (arith, f.up at h, h) in (
      omega (arith, length-set ps at (get_or ps (get_or ps at 0) 0), f.up (get_or ps at 0) inside, inside),
      length-set ps at (get_or ps (get_or ps at 0) 0) ∙ c.loop-parents.invariant.1,
      λ roots old.
          let now = c.loop-parents.invariant.2 roots old in
          (forest_up ps roots at now.0 h, now.0.same (get_or ps at 0) inside ∙ now.0.same at h ∙ now.1),
    )

pub returns-clause-root : goal.returns-clause-root
returns-clause-root c roots f =
    let now = c.loop-parents.invariant.2 roots f in
    sym (now.0.own c.loop-parents.at c.loop-parents.invariant.0 c.loop-parents-test.false) ∙ now.1
