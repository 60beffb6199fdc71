use Rattle.std.proofs.Common.{◌≡◌, List, length, ap, ◌∙◌, arith}
use Rattle.kc_graph.specs.Shape.{GraphShape}
use Rattle.kc_graph.proofs.lemmas.Changes.{vertices-with_edges}
use Rattle.kc_graph.proofs.lemmas.Counts.{count_below-le}
use Rattle.kc_levels.specs.declared.moves.Move.{Move}
use Rattle.kc_levels.specs.Moved.{is_moved, moved_count}
use Rattle.kc_levels.proofs.lemmas.Moves.{length-moves_between}
use Rattle.kc_insert.proofs.insertion.insert_rounds.Goals as goal

pub overflow_cast-result : goal.overflow_cast-result
overflow_cast-result g c =
    let same : c.insert_phase.new.adj.graph.vertices ≡ c.args.adj.now.graph.vertices = ap (λ (k : GraphShape). k.vertices) c.in_ok-moves.ensures.graph ∙ vertices-with_edges c.args.adj.now.graph c.args.added.now in
    let long : length c.in_ok-moves.moves ≡ moved_count c.insert_phase.new.adj.graph.vertices c.args.adj.now.levels c.insert_phase.new.adj.levels = ap (λ (ms : List Move). length ms) c.in_ok-moves.ensures.moves ∙ length-moves_between _ c.args.adj.now.levels c.insert_phase.new.adj.levels in
    omega (arith, c.len.ensures, long, count_below-le c.insert_phase.new.adj.graph.vertices (is_moved c.args.adj.now.levels c.insert_phase.new.adj.levels), same, rw c.graph.ensures at c.vertices-n.ensures.small, rw c.graph.ensures at c.vertices-n.ensures.count)

pub returns-clause-moves : goal.returns-clause-moves
returns-clause-moves g c =
    c.len.ensures ∙ ap (λ (ms : List Move). length ms) c.in_ok-moves.ensures.moves ∙ length-moves_between _ c.args.adj.now.levels c.insert_phase.new.adj.levels
