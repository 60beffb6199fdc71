use Rattle.std.proofs.Common.{◌≡◌, ◌++◌, filter, get_or, length, refl, ap, ◌∙◌, arith}
use Rattle.kc_graph.specs.Shape.{GraphShape, neighbours_of}
use Rattle.kc_graph.proofs.lemmas.Numbers.{has_number_at}
use Rattle.kc_graph.proofs.lemmas.Neighbours.{neighbour_below}
use Rattle.kc_insert.specs.declared.rising.RisingLevels.{RisingLevels}
use Rattle.kc_insert.specs.private.Crossing.{Crossing, rising_near}
use Rattle.kc_insert.specs.private.Rising.{rises}
use Rattle.kc_insert.proofs.Rows.{degrees_more, told_next}
use Rattle.kc_insert.proofs.passes.tell_parting.Goals as goal

pub neighbours-near-requires : goal.neighbours-near-requires
neighbours-near-requires c = rw c.vertex_with_prefetch-v.ensures ((rw (← c.step.view_is) at c.requires.vertices) _ (has_number_at _ c.args.stay.now c.loop-i.i (omega arith) refl))

pub tell_rising-requires-clause-inside : goal.tell_rising-requires-clause-inside
tell_rising-requires-clause-inside c = λ w near. omega (arith, neighbour_below c.step.inside.graph.now.vertices c.vertex_with_prefetch-v.result w c.step.inside.graph.now.edges c.step.invariant.graph (rw c.neighbours-near.ensures.value at near), c.step.invariant.sized)

pub loop-i-preserved : goal.loop-i-preserved
loop-i-preserved c =
    let graph : c.step.inside.graph.now ≡ c.args.step.now.graph = ap (λ (s : Crossing). s.graph) c.step.view_is in
    let near : c.neighbours-near.result.now ≡ neighbours_of (get_or c.args.stay.now c.loop-i.i 0) c.args.step.now.graph.edges = c.neighbours-near.ensures.value ∙ ap (λ v. neighbours_of v c.step.inside.graph.now.edges) c.vertex_with_prefetch-v.ensures ∙ ap (λ (g : GraphShape). neighbours_of (get_or c.args.stay.now c.loop-i.i 0) g.edges) graph in
    let levels : c.step.inside.levels.now ≡ c.args.step.now.levels = ap (λ (s : Crossing). s.levels) c.step.view_is in
    let found : filter (rises c.step.inside.levels.now) c.neighbours-near.result.now ≡ rising_near c.args.step.now (get_or c.args.stay.now c.loop-i.i 0) = ap (λ (x : RisingLevels). filter (rises x) c.neighbours-near.result.now) levels ∙ ap (filter (rises c.args.step.now.levels)) near in (
      told_next (rising_near c.args.step.now) c.args.stay.now c.loop-i.i c.args.told.now c.loop-i.told c.tell_rising.new.self (omega arith) c.loop-i.invariant.0 (c.in_ok-tell_rising.ensures ∙ ap (λ ys. record c.loop-i.told { all = c.loop-i.told.all ++ ys }) found),
      record {
        total = omega (arith, c.loop-i.invariant.1.total, ap length near, degrees_more c.args.step.now.graph c.args.stay.now c.loop-i.i (omega arith));
        few = omega (arith, c.loop-i.invariant.1.few, c.neighbours-near.ensures.fewer, c.neighbours-near.ensures.small);
      },
    )
