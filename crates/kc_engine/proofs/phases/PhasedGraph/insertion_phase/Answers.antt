use Rattle.std.proofs.Common.{ℕ, ◌≡◌, true, List, length, ap, sym, ◌∙◌, arith}
use Rattle.std.proofs.lemmas.Result.{IfOk-weaker}
use Rattle.kc_graph.specs.Shape.{GraphShape}
use Rattle.kc_graph.proofs.lemmas.Changes.{vertices-with_edges}
use Rattle.kc_levels.specs.Moved.{moved_count}
use Rattle.kc_groups.proofs.lemmas.Plans.{between_in_order}
use Rattle.kc_groups.proofs.lemmas.Phases.{present_after}
use Rattle.kc_engine.specs.declared.plans.BatchPlan.{BatchPlan}
use Rattle.kc_engine.specs.Readiness.{AreReady}
use Rattle.kc_engine.proofs.BatchLemmas.{moved_same}
use Rattle.kc_engine.proofs.MoveLemmas.{moves_again, moves_inside, move_count, few_moves}
use Rattle.kc_engine.proofs.PhaseLaw.{phase_made, moves_made}
use Rattle.kc_engine.proofs.phases.PhasedGraph.insertion_phase.Goals as goal

pub returns-then-is_empty-clause-moves : goal.returns-then-is_empty-clause-moves
returns-then-is_empty-clause-moves g c = ap (λ (p : BatchPlan). p.moves) c.empty.ensures ∙ sym (moved_same c.args.self.now.adj.graph.vertices c.args.self.now.adj.levels)

pub follow-requires : goal.follow-requires
follow-requires g c =
    let same : c.insert_phase.new.adj.graph.vertices ≡ c.args.self.now.adj.graph.vertices = ap (λ (h : GraphShape). h.vertices) c.in_ok-moves.ensures.graph ∙ vertices-with_edges c.args.self.now.adj.graph c.as_slice-edges.result.now in
    moves_inside c.insert_phase.new.adj.graph.vertices (length c.args.self.now.work.deletion.before) c.args.self.now.adj.levels c.insert_phase.new.adj.levels c.in_ok-moves.moves
    (same ∙ sym c.levels-levels.ensures.sized ∙ sym (ap (λ (x : List ℕ). length x) c.requires.rest.ready.deletion.before)) c.in_ok-moves.ensures.moves

pub plan_moves-requires-clause-clean : goal.plan_moves-requires-clause-clean
plan_moves-requires-clause-clean g c κs within =
    rw (c.graph-2.ensures, c.in_ok-moves.ensures.graph, vertices-with_edges c.args.self.now.adj.graph c.as_slice-edges.result.now) c.requires.rest.ready.groups

pub plan_moves-requires-clause-order : goal.plan_moves-requires-clause-order
plan_moves-requires-clause-order g c κs within =
    rw c.graph-2.ensures (between_in_order c.insert_phase.new.adj.graph.vertices c.args.self.now.adj.levels c.insert_phase.new.adj.levels c.in_ok-moves.moves c.in_ok-moves.ensures.moves)

pub plan_moves-requires-clause-present : goal.plan_moves-requires-clause-present
plan_moves-requires-clause-present g c κs within = rw (c.graph-2.ensures, c.in_ok-moves.ensures.graph) (present_after c.args.self.now.adj.graph c.as_slice-edges.result.now)

pub overflow_cast-len : goal.overflow_cast-len
overflow_cast-len g c =
    let same : c.insert_phase.new.adj.graph.vertices ≡ c.args.self.now.adj.graph.vertices = ap (λ (h : GraphShape). h.vertices) c.in_ok-moves.ensures.graph ∙ vertices-with_edges c.args.self.now.adj.graph c.as_slice-edges.result.now in
    let few = few_moves c.insert_phase.new.adj.graph.vertices c.args.self.now.adj.graph.vertices c.args.self.now.adj.levels c.insert_phase.new.adj.levels c.in_ok-moves.moves same c.in_ok-moves.ensures.moves in
    omega (arith, c.len.ensures, few, (rw c.graph.ensures at c.vertices-n.ensures.small))

pub returns-clause-phases : goal.returns-clause-phases
returns-clause-phases g c =
    let graph = c.args.self.now.adj.graph in
    let x = c.args.self.now.adj.levels in
    let y = c.insert_phase.new.adj.levels in
    let same : c.insert_phase.new.adj.graph.vertices ≡ c.args.self.now.adj.graph.vertices = ap (λ (h : GraphShape). h.vertices) c.in_ok-moves.ensures.graph ∙ vertices-with_edges c.args.self.now.adj.graph c.as_slice-edges.result.now in
    let planned = rw c.graph-2.ensures at c.in_ok-plan.ensures.entries in
    let entries = planned x y (record { before = c.levels-levels.ensures.sized ∙ sym same; after = c.in_ok-moves.ensures.raised.raisable.sized; moves = c.in_ok-moves.ensures.moves }) in
    phase_made c.of_phase.result c.args.phase c.len.result true c.is_empty.result c.args.added.now x y c.insert_phase.new.adj.graph c.in_ok-plan.plan
    c.is_empty.ensures c.if-is_empty.false (rw c.as_slice-edges.ensures at entries) c.of_phase.ensures

pub returns-clause-ready : goal.returns-clause-ready
returns-clause-ready g c =
    let same : c.insert_phase.new.adj.graph.vertices ≡ c.args.self.now.adj.graph.vertices = ap (λ (h : GraphShape). h.vertices) c.in_ok-moves.ensures.graph ∙ vertices-with_edges c.args.self.now.adj.graph c.as_slice-edges.result.now in
    let ready : AreReady c.args.self.now.thresholds.profile c.insert_phase.new.adj (record { deletion = c.follow.new.self; insertion = c.insert_phase.new.work; groups = c.plan_moves.new.work }) = record {
      deletion = c.follow.ensures c.args.self.now.adj c.insert_phase.new.adj c.requires.rest.ready.deletion c.levels-levels.ensures.sized c.in_ok-moves.ensures.raised.raisable.sized same (moves_again c.insert_phase.new.adj.graph.vertices c.args.self.now.adj.graph.vertices c.args.self.now.adj.levels c.insert_phase.new.adj.levels c.in_ok-moves.moves same c.in_ok-moves.ensures.moves);
      insertion = c.in_ok-moves.ensures.ready;
      groups = rw c.graph-2.ensures at c.in_ok-plan.ensures.clean;
    } in
    IfOk-weaker c.of_phase.result _ _ (λ plan made. ready) c.of_phase.ensures

pub returns-clause-moves : goal.returns-clause-moves
returns-clause-moves g c =
    let same : c.insert_phase.new.adj.graph.vertices ≡ c.args.self.now.adj.graph.vertices = ap (λ (h : GraphShape). h.vertices) c.in_ok-moves.ensures.graph ∙ vertices-with_edges c.args.self.now.adj.graph c.as_slice-edges.result.now in
    let x = c.args.self.now.adj.levels in
    let y = c.insert_phase.new.adj.levels in
    let count = move_count c.insert_phase.new.adj.graph.vertices c.args.self.now.adj.graph.vertices x y c.in_ok-moves.moves same c.in_ok-moves.ensures.moves in
    moves_made c.of_phase.result c.len.result (moved_count c.args.self.now.adj.graph.vertices x y) c.in_ok-plan.plan (c.len.ensures ∙ count) c.of_phase.ensures
