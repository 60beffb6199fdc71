use Rattle.std.proofs.Common.{◌≡◌, ◌+◌, refl, sym, ap, ◌∙◌}
use Rattle.std.specs.Prelude.{None, Ok}
use Rattle.kc_graph.specs.Shape.{GraphShape}
use Rattle.kc_levels.proofs.lemmas.Capped.{within_of}
use Rattle.kc_levels.specs.Thresholds.{Scale}
use Rattle.kc_engine.specs.States.{State}
use Rattle.kc_engine.specs.Batches.{refusal_of}
use Rattle.kc_engine.proofs.BatchLemmas.{fits, sound_behind, vertices_after, ok_before}
use Rattle.kc_engine.proofs.engine.Engine.plan.Given.{Over}
use Rattle.kc_engine.proofs.engine.Engine.plan.Goals as goal

-- the phases were run
done : (g : Over) (c : goal.After-self-4-1 g) → c.run_phases.result ≡ Ok c.in_ok-plan.plan
done g c = ok_before c.run_phases.result c.map_err.result c.in_ok-plan.plan _ c.in_ok-plan.was c.map_err.ensures.cases c.map_err.ensures.variant

pub run_phases-requires-clause-fits : goal.run_phases-requires-clause-fits
run_phases-requires-clause-fits g c κs within =
    let asked = rw (← c.self.view_is) at c.requires.cleaning in
    fits c.self.inside.phased.adj.graph c.args.cleaned.now (c.self.invariant.sound c.if-self.false).graph (asked c.if-self.false)

pub run_phases-requires-clause-rest : goal.run_phases-requires-clause-rest
run_phases-requires-clause-rest g c κs within =
    record { within = within_of _ _ _ (c.self.invariant.scale c.if-self.false) (c.self.invariant.sound c.if-self.false).capped; ready = c.self.invariant.ready c.if-self.false }

pub invariant_of-self-2 : goal.invariant_of-self-2
invariant_of-self-2 g c =
    let e = c.self.inside in
    let s : State = record { profile = e.phased.thresholds.profile; graph = e.phased.adj.graph; levels = e.phased.adj.levels; phases = e.phases } in
    let adj = c.run_phases.new.self.adj in
    let asked = rw (← c.self.view_is) at c.requires.cleaning in
    let none : refusal_of e.edge_limit s c.args.cleaned.now ≡ None = rw (← c.self.view_is) at (sym c.refusal_of.ensures ∙ c.in_default.is) in
    let graph = rw (done g c) at c.run_phases.ensures.graph in
    record {
      some_workers = c.self.invariant.some_workers;
      few_workers = c.self.invariant.few_workers;
      one_each = c.self.invariant.one_each;
      limit = c.self.invariant.limit;
      running = λ h. refl;
      scale = λ h. rw c.run_phases.ensures.thresholds (c.self.invariant.scale c.if-self.false ∙ sym (ap (λ (k : GraphShape). k.vertices) graph ∙ vertices_after e.phased.adj.graph c.args.cleaned.now));
      sound = λ h.
          rw c.run_phases.ensures.thresholds (sound_behind e.edge_limit s c.args.cleaned.now adj.graph adj.levels c.phase_count.result c.self.invariant.limit (c.self.invariant.sound c.if-self.false)
          (asked c.if-self.false) none graph (rw (done g c) at c.run_phases.ensures.plan).levels c.phase_count.ensures.value);
      ready = λ h. rw c.run_phases.ensures.thresholds (rw (done g c) at c.run_phases.ensures.ready);
    }

pub returns-clause-answer : goal.returns-clause-answer
returns-clause-answer g c =
    let e = c.self.inside in
    let s : State = record { profile = e.phased.thresholds.profile; graph = e.phased.adj.graph; levels = e.phased.adj.levels; phases = e.phases } in
    let none : refusal_of e.edge_limit s c.args.cleaned.now ≡ None = rw (← c.self.view_is) at (sym c.refusal_of.ensures ∙ c.in_default.is) in
    let planned = rw (done g c) at c.run_phases.ensures.plan in
    rw (← c.self.view_is)
    (
    record {
      running = c.if-self.false;
      accepted = none;
      after = record { profile = ap (λ (th : Scale). th.profile) c.run_phases.ensures.thresholds; graph = (rw (done g c) at c.run_phases.ensures.graph); levels = planned.levels; phases = ap (λ k. e.phases + k) c.phase_count.ensures.value };
      phases = planned.phases;
      moves = planned.count;
      rest = rw (c.if-self.false, c.run_phases.ensures.thresholds) refl;
    }
    )

pub returns-clause-both : goal.returns-clause-both
returns-clause-both g c =
    let e = c.self.inside in
    let s : State = record { profile = e.phased.thresholds.profile; graph = e.phased.adj.graph; levels = e.phased.adj.levels; phases = e.phases } in
    let adj = c.run_phases.new.self.adj in
    let asked = rw (← c.self.view_is) at c.requires.cleaning in
    let none : refusal_of e.edge_limit s c.args.cleaned.now ≡ None = rw (← c.self.view_is) at (sym c.refusal_of.ensures ∙ c.in_default.is) in
    rw c.run_phases.ensures.thresholds (
    sound_behind e.edge_limit s c.args.cleaned.now adj.graph adj.levels c.phase_count.result c.self.invariant.limit (c.self.invariant.sound c.if-self.false)
    (asked c.if-self.false) none (rw (done g c) at c.run_phases.ensures.graph) (rw (done g c) at c.run_phases.ensures.plan).levels c.phase_count.ensures.value
    ).both

pub returns-clause-sound : goal.returns-clause-sound
returns-clause-sound g c =
    let e = c.self.inside in
    let s : State = record { profile = e.phased.thresholds.profile; graph = e.phased.adj.graph; levels = e.phased.adj.levels; phases = e.phases } in
    let adj = c.run_phases.new.self.adj in
    let asked = rw (← c.self.view_is) at c.requires.cleaning in
    let none : refusal_of e.edge_limit s c.args.cleaned.now ≡ None = rw (← c.self.view_is) at (sym c.refusal_of.ensures ∙ c.in_default.is) in
    rw c.run_phases.ensures.thresholds (sound_behind e.edge_limit s c.args.cleaned.now adj.graph adj.levels c.phase_count.result c.self.invariant.limit (c.self.invariant.sound c.if-self.false)
    (asked c.if-self.false) none (rw (done g c) at c.run_phases.ensures.graph) (rw (done g c) at c.run_phases.ensures.plan).levels c.phase_count.ensures.value)

pub returns-clause-well_formed : goal.returns-clause-well_formed
returns-clause-well_formed g c = rw (← c.self.view_is) (rw (done g c) at c.run_phases.ensures.well_formed)
