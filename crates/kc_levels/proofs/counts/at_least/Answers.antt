use Rattle.std.proofs.Common.{ℕ, leb, get_or, ap, ◌∙◌, arith, List}
use Rattle.std.proofs.lemmas.List.{take_all}
use Rattle.std.specs.Prelude.{count_by}
use Rattle.kc_graph.specs.Shape.{neighbours_of}
use Rattle.kc_levels.specs.LevelList.{at_least}
use Rattle.kc_levels.proofs.counts.at_least.Goals as goal

pub returns-clause-value : goal.returns-clause-value
unfolding at_least
returns-clause-value c =
    let all = take_all c.loop-w.w-index c.neighbours-neighbours.result.now (omega arith) ∙ c.neighbours-neighbours.ensures.value in
    c.loop-w.invariant.0
    ∙ ap (λ (ws : List ℕ). count_by (λ w. leb c.args.level (get_or c.as_slice-levels.result.now w 0)) ws) all
    ∙ ap (λ (x : List ℕ). count_by (λ w. leb c.args.level (get_or x w 0)) (neighbours_of c.args.v c.args.graph.now.edges)) c.as_slice-levels.ensures
