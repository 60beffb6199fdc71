use Rattle.std.proofs.Common.{ℕ, ◌≡◌, ◌∙◌, length, false, ap, subst, sym}
use Rattle.std.specs.Arc.{arc_value}
use Rattle.kc_graph.specs.Shape.{GraphShape}
use Rattle.kc_graph.specs.Cleaning.{cleaned}
use Rattle.kc_store.specs.Seats.{StoreShape}
use Rattle.kc_service.specs.Services.{ServiceView, view_of, IsDue, IsApplied}
use Rattle.kc_service.proofs.Batches.{applied_is}
use Rattle.kc_service.proofs.service.Service.apply_due.Goals as goal

pub returns-in-Ok-plan_and_show-clause-answer : goal.returns-in-Ok-plan_and_show-clause-answer
returns-in-Ok-plan_and_show-clause-answer g c =
    let s : StoreShape = (arc_value c.self.inside.board).store in
    let e = c.self.inside.engine in
    let d = c.in-Ok.cleaned in
    let plan = c.in-Ok-plan_and_show.plan in
    let items = c.args.items.now in
    let after : ServiceView = view_of s c.plan_and_show.new.engine c.plan_and_show.new.writer in
    let running : e.halted ≡ false = ap (λ (z : ServiceView). z.halted) c.self.view_is ∙ c.requires.running in
    let same : d ≡ cleaned e.state.graph items = c.in-Ok.ensures ∙ ap (λ (h : GraphShape). cleaned h items) c.graph.ensures.value in
    let due : IsDue (view_of s e c.self.inside.writer) items = subst (λ (z : ServiceView). IsDue z items) (sym c.self.view_is) (record { running = c.requires.running; few = c.requires.few; inside = c.requires.inside }) in
    let counted = applied_is s e c.plan_and_show.new.engine c.self.inside.writer c.plan_and_show.new.writer items d plan (c.self.invariant.vertices running) due same c.in-Ok-plan_and_show.ensures.answer in
    let added = subst (λ (k : ℕ). IsApplied (view_of s e c.self.inside.writer) items (record { added = k; removed = length d.removed; moves = plan.moves; phases = plan.phases }) after) (sym c.len.ensures) counted in
    let told = subst (λ (k : ℕ). IsApplied (view_of s e c.self.inside.writer) items (record { added = c.len.result; removed = k; moves = plan.moves; phases = plan.phases }) after) (sym c.len-in-Ok-plan_and_show.ensures) added in
    subst (λ (z : ServiceView). IsApplied z items (record { added = c.len.result; removed = c.len-in-Ok-plan_and_show.result; moves = plan.moves; phases = plan.phases }) after) c.self.view_is told
