use Rattle.std.proofs.Common.{◌∙◌, sym, ap, subst}
use Rattle.kc_graph.specs.declared.limits.TheConstants.{MAX_EDGES}
use Rattle.kc_graph.specs.Shape.{GraphShape}
use Rattle.kc_engine.specs.Planning.{EngineView}
use Rattle.kc_engine.specs.Showing as showing
use Rattle.kc_engine.proofs.lemmas.Batches.{vertices_after}
use Rattle.kc_engine.proofs.lemmas.Phases.{phases_continue, shown_is_abreast}
use Rattle.kc_session.specs.declared.audience.Audience.{Audience}
use Rattle.kc_session.specs.private.Audiences.{LeadOver}
use Rattle.kc_session.proofs.audience.show.Goals as goal

pub show-requires-clause-vertices : goal.show-requires-clause-vertices
show-requires-clause-vertices g c κs within =
    let l = subst (λ (a : Audience). LeadOver a c.args.plan.now.phases c.args.engine.now.state) c.in-Readers.is c.requires.lead in
    l.abreast.1.vertices ∙ sym (ap (λ (h : GraphShape). h.vertices) l.after.after.graph ∙ vertices_after l.before.graph l.batch)

pub show-requires-clause-continues : goal.show-requires-clause-continues
show-requires-clause-continues g c κs within =
    let l = subst (λ (a : Audience). LeadOver a c.args.plan.now.phases c.args.engine.now.state) c.in-Readers.is c.requires.lead in
    phases_continue MAX_EDGES c.in-Readers.writer.state l.before c.args.engine.now.state l.batch c.args.plan.now.phases l.sound l.cleaning l.after l.abreast.1

pub returns-in-Readers-clause-abreast : goal.returns-in-Readers-clause-abreast
returns-in-Readers-clause-abreast g c =
    let l = subst (λ (a : Audience). LeadOver a c.args.plan.now.phases c.args.engine.now.state) c.in-Readers.is c.requires.lead in (
      c.show.ensures.table ∙ l.abreast.0,
      subst (λ (e : EngineView). showing.IsAbreast c.show.new.writer.state e.state) (sym c.show.ensures.engine)
          (shown_is_abreast MAX_EDGES c.in-Readers.writer.state c.show.new.writer.state l.before c.args.engine.now.state l.batch c.args.plan.now.phases l.sound l.cleaning l.after l.abreast.1 c.show.ensures.shown),
    )
