use Rattle.std.proofs.Common.{rules, ◌≡◌, Some, sym, ap, ◌∙◌, subst, arith}
use Rattle.std.specs.List.{slice_get}
use Rattle.kc_history.specs.declared.entries.Entry.{Entry}
use Rattle.kc_groups.specs.declared.plans.PhasePlan.{PhasePlan}
use Rattle.kc_store.specs.declared.roles.WriterState.{WriterState}
use Rattle.kc_store.specs.Seats.{writer_of}
use Rattle.kc_store.specs.States.{MayPublish}
use Rattle.kc_store.proofs.Forms.{can_publish}
use Rattle.kc_store.proofs.Calls.{publishes_from}
use Rattle.kc_store.proofs.writer.Writer.publish.Goals as goal

pub group_at-requires : goal.group_at-requires
group_at-requires c =
    let state : c.args.self.now.state ≡ writer_of c.self.inside.seat.me.0 = ap (λ z. z.state) (sym c.self.view_is) in
    let may = can_publish _ _ (subst (λ (d : WriterState). MayPublish d c.args.g) state c.requires.publishes) in
    let plan : c.args.plan.now ≡ (writer_of c.self.inside.seat.me.0).plan = c.requires.plan ∙ ap (λ (d : WriterState). d.plan) state in
    (may.group, ap (λ (p : PhasePlan). slice_get p.groups c.args.g) plan ∙ may.at)

pub label_of-label-requires : goal.label_of-label-requires
label_of-label-requires c =
    let state : c.args.self.now.state ≡ writer_of c.self.inside.seat.me.0 = ap (λ z. z.state) (sym c.self.view_is) in
    let may = can_publish _ _ (subst (λ (d : WriterState). MayPublish d c.args.g) state c.requires.publishes) in
    let gr = c.self.invariant.formed.groups c.args.g may.group may.at in
    let plan : c.args.plan.now ≡ (writer_of c.self.inside.seat.me.0).plan = c.requires.plan ∙ ap (λ (d : WriterState). d.plan) state in
    let is = c.group_at.ensures may.group (ap (λ (p : PhasePlan). slice_get p.groups c.args.g) plan ∙ may.at) in
    (gr.label, ap (λ (e : Entry). e.label) is ∙ gr.label_is)

pub store-requires : goal.store-requires
store-requires c =
    let h = c.self.invariant in
    let state : c.args.self.now.state ≡ writer_of c.self.inside.seat.me.0 = ap (λ z. z.state) (sym c.self.view_is) in
    let may = can_publish _ _ (subst (λ (d : WriterState). MayPublish d c.args.g) state c.requires.publishes) in
    let gr = h.formed.groups c.args.g may.group may.at in
    let plan : c.args.plan.now ≡ (writer_of c.self.inside.seat.me.0).plan = c.requires.plan ∙ ap (λ (d : WriterState). d.plan) state in
    let is = c.group_at.ensures may.group (ap (λ (p : PhasePlan). slice_get p.groups c.args.g) plan ∙ may.at) in
    let named : may.group.label ≡ Some c.label_of-label.result = ap (λ (e : Entry). e.label) (sym is) ∙ c.label_of-label.ensures in
    let same : Some c.label_of-label.result ≡ Some gr.label = sym named ∙ gr.label_is in
    let label : c.label_of-label.result ≡ gr.label = cc in
    let table : c.self.inside.seat.table_id ≡ c.store.inside.table.shared.table_id = search rules in
    let words = ap (λ z. z.words) table in
    let phase = ap (λ (p : PhasePlan). p.quiet.phase) plan ∙ h.formed.phase_is in (
      table,
      omega (arith, label, gr.label_in, h.sized, c.store.invariant.1, words),
      publishes_from _ c.store.inside.n _ _ _ _ c.args.g _ c.store.invariant.0 h.me_is may named (search rules),
    )
