use Rattle.std.proofs.Common.{◌≡◌, ◌∙◌, ap, subst, sym}
use Rattle.kc_graph.specs.declared.cleaning.Cleaned.{Cleaned}
use Rattle.kc_graph.specs.Shape.{GraphShape}
use Rattle.kc_graph.specs.Cleaning.{cleaned}
use Rattle.kc_engine.specs.Batches.{IsAfterPhases}
use Rattle.kc_engine.specs.Planning.{EngineView, IsPlanned}
use Rattle.kc_session.proofs.ApplyLemmas.{IsDue, after_phases, lead_over, open_after}
use Rattle.kc_session.proofs.applying.apply.Goals as goal

pub show-requires-clause-lead : goal.show-requires-clause-lead
show-requires-clause-lead g c κs within =
    let same : c.in_ok-cleaned.cleaned ≡ cleaned c.args.watched.now.engine.state.graph c.args.items =
    (rw c.as_slice.ensures at c.in_ok-cleaned.ensures) ∙ ap (λ (h : GraphShape). cleaned h c.args.items) c.graph.ensures.value in
    let due : IsDue c.args.watched.now.engine c.args.items = record { open_for = c.requires.open; inside = c.requires.inside; few = c.requires.few } in
    lead_over c.args.watched.now.audience c.args.watched.now.engine c.plan.new.self c.args.items c.in_ok-cleaned.cleaned c.in-Ok.plan due c.requires.abreast same c.in-Ok.ensures.answer

pub returns-in-Ok-clause-outcome : goal.returns-in-Ok-clause-outcome
returns-in-Ok-clause-outcome g c =
    let same : c.in_ok-cleaned.cleaned ≡ cleaned c.args.watched.now.engine.state.graph c.args.items =
    (rw c.as_slice.ensures at c.in_ok-cleaned.ensures) ∙ ap (λ (h : GraphShape). cleaned h c.args.items) c.graph.ensures.value in
    let p = subst (λ (x : Cleaned). IsPlanned c.args.watched.now.engine x c.in-Ok.plan c.plan.new.self) same c.in-Ok.ensures.answer in
    let after = after_phases c.args.watched.now.engine c.plan.new.self c.args.items c.in_ok-cleaned.cleaned c.in-Ok.plan same c.in-Ok.ensures.answer in
    (rw c.requires.open.limit at p.accepted, same, subst (λ (z : EngineView). IsAfterPhases c.args.watched.now.engine.state (cleaned c.args.watched.now.engine.state.graph c.args.items) z.state c.in-Ok.plan.phases) (sym c.show.ensures.engine) after, c.show.ensures.shown)

pub returns-in-Ok-clause-open : goal.returns-in-Ok-clause-open
returns-in-Ok-clause-open g c = open_after c.args.watched.now.engine c.plan.new.self c.show.new.engine c.in_ok-cleaned.cleaned c.in-Ok.plan c.requires.open c.in-Ok.ensures.answer c.in-Ok.ensures.sound c.show.ensures.engine
