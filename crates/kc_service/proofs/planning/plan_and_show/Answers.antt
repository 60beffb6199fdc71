use Rattle.std.proofs.Common.{◌∙◌, false, ap, subst, sym}
use Rattle.kc_graph.specs.Shape.{GraphShape}
use Rattle.kc_engine.specs.Batches.{IsAfterPhases}
use Rattle.kc_engine.specs.Planning.{EngineView, IsPlanned}
use Rattle.kc_engine.specs.Showing.{IsAbreast}
use Rattle.kc_engine.proofs.lemmas.Batches.{vertices_after}
use Rattle.kc_service.proofs.planning.plan_and_show.Goals as goal

pub show-requires-clause-vertices : goal.show-requires-clause-vertices
show-requires-clause-vertices g c κs within =
    let p : IsPlanned c.args.engine.now c.args.cleaned.now c.in_ok-plan.plan c.plan.new.self = c.in_ok-plan.ensures.answer in
    c.requires.abreast.vertices ∙ sym (ap (λ (x : GraphShape). x.vertices) p.after.graph ∙ vertices_after c.args.engine.now.state.graph c.args.cleaned.now)

pub show-requires-clause-continues : goal.show-requires-clause-continues
show-requires-clause-continues g c κs within =
    let p : IsPlanned c.args.engine.now c.args.cleaned.now c.in_ok-plan.plan c.plan.new.self = c.in_ok-plan.ensures.answer in
    let after : IsAfterPhases c.args.engine.now.state c.args.cleaned.now c.plan.new.self.state c.in_ok-plan.plan.phases = record { after = p.after; phases = p.phases } in
    c.phases_continue.ensures.continues _ _ _ _ _ _ (c.graph-graph.ensures.sound p.running) c.requires.cleaning after c.requires.abreast

pub returns-clause-abreast : goal.returns-clause-abreast
returns-clause-abreast g c =
    let p : IsPlanned c.args.engine.now c.args.cleaned.now c.in_ok-plan.plan c.plan.new.self = c.in_ok-plan.ensures.answer in
    let after : IsAfterPhases c.args.engine.now.state c.args.cleaned.now c.plan.new.self.state c.in_ok-plan.plan.phases = record { after = p.after; phases = p.phases } in
    let shown : EngineView = record c.plan.new.self { waits = false } in
    subst (λ (z : EngineView). IsAbreast c.show.new.writer.state z.state) {x = shown} (sym {b = shown} c.show.ensures.engine)
    (c.phases_continue.ensures.abreast _ _ _ _ _ _ _ (c.graph-graph.ensures.sound p.running) c.requires.cleaning after c.requires.abreast c.show.ensures.shown)
