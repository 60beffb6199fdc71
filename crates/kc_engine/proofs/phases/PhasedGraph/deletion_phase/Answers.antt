use Rattle.std.proofs.Common.{ℕ, ◌≡◌, false, List, length, ap, refl, sym, ◌∙◌, arith}
use Rattle.std.proofs.lemmas.Result.{IfOk-weaker}
use Rattle.kc_graph.specs.Shape.{GraphShape}
use Rattle.kc_graph.proofs.lemmas.Changes.{vertices-without_edges}
use Rattle.kc_levels.specs.Moved.{moved_count}
use Rattle.kc_groups.proofs.lemmas.Plans.{between_in_order}
use Rattle.kc_groups.proofs.lemmas.Phases.{present_after}
use Rattle.kc_engine.specs.declared.plans.BatchPlan.{BatchPlan}
use Rattle.kc_engine.specs.Readiness.{AreReady}
use Rattle.kc_engine.proofs.BatchLemmas.{moved_same}
use Rattle.kc_engine.proofs.RelinkLemmas.{linked_again}
use Rattle.kc_engine.proofs.MoveLemmas.{edges_inside, moves_again, moves_inside, move_count, few_moves}
use Rattle.kc_engine.proofs.PhaseLaw.{phase_made, moves_made}
use Rattle.kc_engine.proofs.phases.PhasedGraph.deletion_phase.Goals as goal

pub returns-then-is_empty-clause-moves : goal.returns-then-is_empty-clause-moves
returns-then-is_empty-clause-moves g c = ap (λ (p : BatchPlan). p.moves) c.empty.ensures ∙ sym (moved_same c.args.self.now.adj.graph.vertices c.args.self.now.adj.levels)

pub follow-requires-clause-levels : goal.follow-requires-clause-levels
follow-requires-clause-levels g c =
    let same : c.delete_phase.new.adj.graph.vertices ≡ c.args.self.now.adj.graph.vertices = ap (λ (h : GraphShape). h.vertices) c.in_ok-moves.ensures.graph ∙ vertices-without_edges c.args.self.now.adj.graph c.as_slice-edges.result.now in
    ap (λ (x : List ℕ). length x) c.requires.rest.ready.insertion.levels ∙ c.levels-levels.ensures.sized ∙ sym same

pub follow-requires-clause-vertices : goal.follow-requires-clause-vertices
follow-requires-clause-vertices g c =
    let same : c.delete_phase.new.adj.graph.vertices ≡ c.args.self.now.adj.graph.vertices = ap (λ (h : GraphShape). h.vertices) c.in_ok-moves.ensures.graph ∙ vertices-without_edges c.args.self.now.adj.graph c.as_slice-edges.result.now in
    λ v h. c.requires.rest.ready.insertion.quiet.shape.vertex v (omega (arith, h, same))

pub follow-requires-clause-edges : goal.follow-requires-clause-edges
follow-requires-clause-edges g c =
    let same : c.delete_phase.new.adj.graph.vertices ≡ c.args.self.now.adj.graph.vertices = ap (λ (h : GraphShape). h.vertices) c.in_ok-moves.ensures.graph ∙ vertices-without_edges c.args.self.now.adj.graph c.as_slice-edges.result.now in
    edges_inside c.args.self.now.adj.graph.vertices c.delete_phase.new.adj.graph.vertices c.as_slice-edges.result.now (sym same) (rw c.as_slice-edges.ensures c.requires.ascending)

pub follow-requires-clause-moves : goal.follow-requires-clause-moves
follow-requires-clause-moves g c =
    let n = c.delete_phase.new.adj.graph.vertices in
    moves_inside n n c.args.self.now.adj.levels c.delete_phase.new.adj.levels c.in_ok-moves.moves refl c.in_ok-moves.ensures.moves

pub plan_moves-requires-clause-clean : goal.plan_moves-requires-clause-clean
plan_moves-requires-clause-clean g c κs within =
    rw (c.graph-2.ensures, c.in_ok-moves.ensures.graph, vertices-without_edges c.args.self.now.adj.graph c.as_slice-edges.result.now) c.requires.rest.ready.groups

pub plan_moves-requires-clause-order : goal.plan_moves-requires-clause-order
plan_moves-requires-clause-order g c κs within =
    rw c.graph-2.ensures (between_in_order c.delete_phase.new.adj.graph.vertices c.args.self.now.adj.levels c.delete_phase.new.adj.levels c.in_ok-moves.moves c.in_ok-moves.ensures.moves)

pub plan_moves-requires-clause-ascending : goal.plan_moves-requires-clause-ascending
plan_moves-requires-clause-ascending g c κs within =
    rw (c.graph-2.ensures, c.in_ok-moves.ensures.graph, c.as_slice-edges.ensures, vertices-without_edges c.args.self.now.adj.graph c.args.removed.now) c.requires.ascending

pub plan_moves-requires-clause-present : goal.plan_moves-requires-clause-present
plan_moves-requires-clause-present g c κs within = present_after c.graph-2.result.now c.as_slice-edges.result.now

pub overflow_cast-len : goal.overflow_cast-len
overflow_cast-len g c =
    let same : c.delete_phase.new.adj.graph.vertices ≡ c.args.self.now.adj.graph.vertices = ap (λ (h : GraphShape). h.vertices) c.in_ok-moves.ensures.graph ∙ vertices-without_edges c.args.self.now.adj.graph c.as_slice-edges.result.now in
    let few = few_moves c.delete_phase.new.adj.graph.vertices c.args.self.now.adj.graph.vertices c.args.self.now.adj.levels c.delete_phase.new.adj.levels c.in_ok-moves.moves same c.in_ok-moves.ensures.moves in
    omega (arith, c.len.ensures, few, (rw c.graph.ensures at c.vertices-n.ensures.small))

pub returns-clause-phases : goal.returns-clause-phases
returns-clause-phases g c =
    let graph = c.args.self.now.adj.graph in
    let x = c.args.self.now.adj.levels in
    let y = c.delete_phase.new.adj.levels in
    let same : c.delete_phase.new.adj.graph.vertices ≡ c.args.self.now.adj.graph.vertices = ap (λ (h : GraphShape). h.vertices) c.in_ok-moves.ensures.graph ∙ vertices-without_edges c.args.self.now.adj.graph c.as_slice-edges.result.now in
    let planned = rw c.graph-2.ensures at c.in_ok-plan.ensures.entries in
    let entries = planned x y (record { before = c.levels-levels.ensures.sized ∙ sym same; after = c.in_ok-moves.ensures.lowered.lowerable.sized; moves = c.in_ok-moves.ensures.moves }) in
    let again = linked_again graph c.args.removed.now (rw c.graph.ensures at c.vertices-n.ensures.graph) c.requires.ascending c.requires.present in
    phase_made c.of_phase.result c.args.phase c.len.result false c.is_empty.result c.args.removed.now x y graph c.in_ok-plan.plan
    c.is_empty.ensures c.if-is_empty.false (rw (c.in_ok-moves.ensures.graph, c.as_slice-edges.ensures, again) at entries) c.of_phase.ensures

pub returns-clause-ready : goal.returns-clause-ready
returns-clause-ready g c =
    let same : c.delete_phase.new.adj.graph.vertices ≡ c.args.self.now.adj.graph.vertices = ap (λ (h : GraphShape). h.vertices) c.in_ok-moves.ensures.graph ∙ vertices-without_edges c.args.self.now.adj.graph c.as_slice-edges.result.now in
    let ready : AreReady c.args.self.now.thresholds.profile c.delete_phase.new.adj (record { deletion = c.delete_phase.new.work; insertion = c.follow.new.self; groups = c.plan_moves.new.work }) = record {
      deletion = c.in_ok-moves.ensures.ready;
      insertion = c.follow.ensures c.args.self.now.thresholds.profile c.args.self.now.adj c.requires.rest.ready.insertion c.levels-levels.ensures.sized c.in_ok-moves.ensures.graph (moves_again c.delete_phase.new.adj.graph.vertices c.args.self.now.adj.graph.vertices c.args.self.now.adj.levels c.delete_phase.new.adj.levels c.in_ok-moves.moves same c.in_ok-moves.ensures.moves);
      groups = rw c.graph-2.ensures at c.in_ok-plan.ensures.clean;
    } in
    IfOk-weaker c.of_phase.result _ _ (λ plan made. ready) c.of_phase.ensures

pub returns-clause-moves : goal.returns-clause-moves
returns-clause-moves g c =
    let same : c.delete_phase.new.adj.graph.vertices ≡ c.args.self.now.adj.graph.vertices = ap (λ (h : GraphShape). h.vertices) c.in_ok-moves.ensures.graph ∙ vertices-without_edges c.args.self.now.adj.graph c.as_slice-edges.result.now in
    let x = c.args.self.now.adj.levels in
    let y = c.delete_phase.new.adj.levels in
    let count = move_count c.delete_phase.new.adj.graph.vertices c.args.self.now.adj.graph.vertices x y c.in_ok-moves.moves same c.in_ok-moves.ensures.moves in
    moves_made c.of_phase.result c.len.result (moved_count c.args.self.now.adj.graph.vertices x y) c.in_ok-plan.plan (c.len.ensures ∙ count) c.of_phase.ensures
