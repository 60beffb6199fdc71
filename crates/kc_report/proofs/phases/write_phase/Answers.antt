use Rattle.std.proofs.Common.{◌≡◌, ◌+◌, ◌∙◌, ◌<◌, refl, take, take_all, sym, subst, ap, arith, length, List}
use Rattle.std.specs.Prelude.{IsSome}
use Rattle.std.specs.List.{flat_map}
use Rattle.std.proofs.lemmas.Result.{err_from_is_err_and}
use Rattle.kc_text.proofs.lemmas.Writing.{prefix_longer, prefix_none}
use Rattle.kc_history.specs.declared.entries.Entry.{Entry}
use Rattle.kc_report.specs.Lines.{phase_line, group_line, phase_text}
use Rattle.kc_report.proofs.LineLemmas.{sent_prefix, sent_whole}
use Rattle.kc_report.proofs.TextLemmas.{has_labels, held_after, held_within}
use Rattle.kc_report.proofs.VertexLemmas.{held_emptied, appends_held}
use Rattle.kc_report.proofs.phases.write_phase.Goals.{then-as_bytes-block+in_ok-send_held, else-as_bytes-block}
use Rattle.kc_report.proofs.phases.write_phase.Goals as goal

pub returns-in_err-send_to-clause-text : goal.returns-in_err-send_to-clause-text
returns-in_err-send_to-clause-text g c =
    let p = err_from_is_err_and c.from_residual-in_err-send_to.result c.from_residual-in_err-send_to.ensures.1 in
    rw p.1 (prefix_longer _ _ (phase_line c.args.plan.now) (flat_map group_line c.args.plan.now.groups) (sent_prefix _ _ _ _ c.send_to.result c.in_ok-fill_phase.ensures c.send_to.ensures.sent))

pub loop-group-init : goal.loop-group-init
loop-group-init g c = record {
  held = record { said = phase_line c.args.plan.now; all = rw c.in_ok-send_to.ensures.ok refl; taken = sent_whole _ _ _ _ c.in_ok-fill_phase.ensures c.in_ok-send_to.ensures.sent };
  faults = c.in_ok-send_to.ensures.cause;
}

pub append_group-requires-clause-label : goal.append_group-requires-clause-label
append_group-requires-clause-label g c =
    let within : c.loop-group.group-index < length c.args.plan.now.groups = omega (arith, c.loop-group-test.true, ap (λ (xs : List Entry). length xs) c.as_slice-group-items.ensures) in
    let labels = has_labels c.requires.well_formed.0 c.args.plan.now c.requires.well_formed.1 in
    subst (λ (group : Entry). IsSome group.label) (sym (rw c.as_slice-group-items.ensures at c.group-item.is)) (labels c.loop-group.group-index c.group-item.result within)

pub returns-in_err-append_group-clause-text : goal.returns-in_err-append_group-clause-text
returns-in_err-append_group-clause-text g c =
    let p = err_from_is_err_and c.from_residual-in_err-append_group.result c.from_residual-in_err-append_group.ensures.1 in
    rw p.1 (held_within (phase_line c.args.plan.now) group_line c.args.plan.now.groups c.loop-group.group-index _ _ _ _ c.loop-group.invariant.held (prefix_none _ _ _ refl))

pub returns-in_err-send_held-clause-text : goal.returns-in_err-send_held-clause-text
returns-in_err-send_held-clause-text g c =
    let p = err_from_is_err_and c.from_residual-in_err-send_held.result c.from_residual-in_err-send_held.ensures.1 in
    let more = held_after (phase_line c.args.plan.now) group_line c.args.plan.now.groups c.loop-group.group-index c.group-item.result c.group-item.result _ _ _ _
    (omega (arith, c.loop-group-test.true, ap (λ (xs : List Entry). length xs) c.as_slice-group-items.ensures)) (rw c.as_slice-group-items.ensures at c.group-item.is)
    c.loop-group.invariant.held c.in_ok-append_group.ensures in
    rw p.1 (held_within (phase_line c.args.plan.now) group_line c.args.plan.now.groups (c.loop-group.group-index + 1) _ _ _ _ more c.in_err-send_held.ensures.text)

pub loop-group-preserved : goal.loop-group-preserved
loop-group-preserved g c =
    let more = held_after (phase_line c.args.plan.now) group_line c.args.plan.now.groups c.loop-group.group-index c.group-item.result c.group-item.result _ _ _ _
    (omega (arith, c.loop-group-test.true, ap (λ (xs : List Entry). length xs) c.as_slice-group-items.ensures)) (rw c.as_slice-group-items.ensures at c.group-item.is)
    c.loop-group.invariant.held c.in_ok-append_group.ensures in
    elim c.if-as_bytes-block.branch [
      | then-as_bytes-block+in_ok-send_held w ↦ rw (w.buf-is, w.sink-is) (record {
        held = held_emptied _ _ _ _ _ _ more w.in_ok-send_held.ensures.text w.in_ok-send_held.ensures.buffer;
        faults = w.in_ok-send_held.ensures.cause ∙ c.loop-group.invariant.faults;
      })
      | else-as_bytes-block w ↦ rw (w.buf-is, w.sink-is) (record { held = more; faults = c.loop-group.invariant.faults })
    ]

pub returns-clause-text : goal.returns-clause-text
returns-clause-text g c =
    let end : take c.loop-group.group-index c.args.plan.now.groups ≡ c.args.plan.now.groups =
    take_all c.loop-group.group-index c.args.plan.now.groups (omega (arith, c.loop-group-test.false, ap (λ (xs : List Entry). length xs) c.as_slice-group-items.ensures)) in
    appends_held _ _ _ (phase_text c.args.plan.now) _ c.send_held-2.result (rw end at c.loop-group.invariant.held) c.send_held-2.ensures.text
