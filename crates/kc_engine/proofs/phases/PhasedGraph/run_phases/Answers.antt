use Rattle.std.proofs.Common.{◌≡◌, ◌+◌, ap, sym, ◌∙◌, arith}
use Rattle.std.specs.Prelude.{IfOk}
use Rattle.std.proofs.lemmas.Result.{IfOk-weaker}
use Rattle.kc_graph.specs.Shape.{GraphShape}
use Rattle.kc_graph.proofs.lemmas.Changes.{vertices-without_edges}
use Rattle.kc_graph.proofs.lemmas.Counts.{count_below-le}
use Rattle.kc_levels.specs.Moved.{is_moved}
use Rattle.kc_levels.proofs.lemmas.Capped.{capped_of, within_of}
use Rattle.kc_engine.specs.declared.plans.BatchPlan.{BatchPlan}
use Rattle.kc_engine.specs.private.Batches.{IsPlanOf}
use Rattle.kc_engine.proofs.BatchLemmas.{IsAt, after_lowered}
use Rattle.kc_engine.proofs.PhaseLaw.{plan_made, well_formed_made}
use Rattle.kc_engine.proofs.phases.PhasedGraph.run_phases.Given.{Over}
use Rattle.kc_engine.proofs.phases.PhasedGraph.run_phases.Goals as goal

pub insertion_phase-requires-clause-rest : goal.insertion_phase-requires-clause-rest
insertion_phase-requires-clause-rest g c κs within =
    let p = c.args.self.now.thresholds.profile in
    let graph = c.args.self.now.adj.graph in
    let levels = c.args.self.now.adj.levels in
    let at : IsAt p graph levels = record { graph = rw c.graph.ensures at c.vertices-n.ensures.graph; both = c.requires.both; capped = capped_of c.args.self.now.thresholds graph levels c.requires.rest.within } in
    let between = after_lowered p graph c.args.cleaned.now.removed levels c.deletion_phase.new.self.adj.levels at c.in_ok-fallen.ensures.lowered in
    record {
      within = within_of c.deletion_phase.new.self.thresholds c.deletion_phase.new.self.adj.graph c.deletion_phase.new.self.adj.levels
          (rw (c.in_ok-fallen.ensures.thresholds, c.in_ok-fallen.ensures.graph) (c.requires.rest.within.scale ∙ sym (vertices-without_edges graph c.args.cleaned.now.removed)))
          (rw (c.in_ok-fallen.ensures.thresholds, c.in_ok-fallen.ensures.graph) between.capped);
      ready = rw c.in_ok-fallen.ensures.thresholds c.in_ok-fallen.ensures.ready;
    }

pub insertion_phase-requires-clause-upper : goal.insertion_phase-requires-clause-upper
insertion_phase-requires-clause-upper g c κs within =
    let p = c.args.self.now.thresholds.profile in
    let graph = c.args.self.now.adj.graph in
    let levels = c.args.self.now.adj.levels in
    let at : IsAt p graph levels = record { graph = rw c.graph.ensures at c.vertices-n.ensures.graph; both = c.requires.both; capped = capped_of c.args.self.now.thresholds graph levels c.requires.rest.within } in
    let between = after_lowered p graph c.args.cleaned.now.removed levels c.deletion_phase.new.self.adj.levels at c.in_ok-fallen.ensures.lowered in
    rw (c.in_ok-fallen.ensures.thresholds, c.in_ok-fallen.ensures.graph) between.both.upper

pub insertion_phase-requires-clause-ascending : goal.insertion_phase-requires-clause-ascending
insertion_phase-requires-clause-ascending g c κs within =
    rw (c.in_ok-fallen.ensures.graph, vertices-without_edges c.args.self.now.adj.graph c.args.cleaned.now.removed) c.requires.fits.added_ascend

pub and_then-requires : goal.and_then-requires
and_then-requires g c =
    let y = c.deletion_phase.new.self.adj.levels in
    let h = c.deletion_phase.new.self.adj.graph in
    let same : h.vertices ≡ c.args.self.now.adj.graph.vertices =
    ap (λ (k : GraphShape). k.vertices) c.in_ok-fallen.ensures.graph ∙ vertices-without_edges c.args.self.now.adj.graph c.args.cleaned.now.removed in
    let few = rw c.graph.ensures at c.vertices-n.ensures.small in
    omega (
      arith,
      c.in_ok-fallen.ensures.moves,
      c.in_ok-risen.ensures.moves,
      count_below-le c.args.self.now.adj.graph.vertices (is_moved c.args.self.now.adj.levels y),
      count_below-le h.vertices (is_moved y c.insertion_phase.new.self.adj.levels),
      same,
      few,
    )

-- the plan that was made
made : (g : Over) (c : goal.After-and_then g) → IfOk c.and_then.result (λ (plan : BatchPlan). IsPlanOf c.args.self.now.thresholds.profile c.args.before c.args.self.now.adj.graph c.args.cleaned.now c.args.self.now.adj.levels c.insertion_phase.new.self.adj.levels plan)
made g c =
    plan_made c.and_then.result c.args.self.now.thresholds.profile c.args.before (c.args.before + c.phases_for.result) c.args.self.now.adj.graph c.deletion_phase.new.self.adj.graph c.insertion_phase.new.self.adj.graph c.args.cleaned.now
    c.args.self.now.adj.levels c.deletion_phase.new.self.adj.levels c.insertion_phase.new.self.adj.levels c.in_ok-fallen.fallen c.in_ok-risen.risen
    (ap (λ n. c.args.before + n) c.phases_for.ensures.value) c.in_ok-fallen.ensures.graph c.in_ok-risen.ensures.graph
    c.in_ok-fallen.ensures.lowered (rw c.in_ok-fallen.ensures.thresholds at c.in_ok-risen.ensures.raised) c.in_ok-fallen.ensures.phases c.in_ok-risen.ensures.phases c.in_ok-fallen.ensures.moves c.in_ok-risen.ensures.moves c.and_then.ensures

pub returns-clause-ready : goal.returns-clause-ready
returns-clause-ready g c = IfOk-weaker c.and_then.result _ _ (λ plan made. rw c.in_ok-fallen.ensures.thresholds at c.in_ok-risen.ensures.ready) c.and_then.ensures

pub returns-clause-plan : goal.returns-clause-plan
returns-clause-plan g c = made g c

pub returns-clause-well_formed : goal.returns-clause-well_formed
returns-clause-well_formed g c =
    well_formed_made c.and_then.result c.args.self.now.thresholds.profile c.args.before c.args.self.now.adj.graph c.args.cleaned.now c.args.self.now.adj.levels c.insertion_phase.new.self.adj.levels (made g c)
