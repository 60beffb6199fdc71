use Rattle.std.proofs.Common.{ℕ, ◌∙◌, sym, subst}
use Rattle.std.specs.List.{flat_map}
use Rattle.std.proofs.lemmas.Result.{err_from_is_err_and}
use Rattle.kc_text.proofs.lemmas.Writing.{prefix_longer}
use Rattle.kc_groups.specs.declared.plans.PhasePlan.{PhasePlan}
use Rattle.kc_groups.specs.WellFormed.{IsWellFormed}
use Rattle.kc_report.specs.Lines.{batch_line, phase_text}
use Rattle.kc_report.proofs.LineLemmas.{sent_prefix, sent_whole}
use Rattle.kc_report.proofs.TextLemmas.{none_after, more_after, prefix_after}
use Rattle.kc_report.proofs.batches.write_batch_by.Goals as goal

pub returns-in_err-send_to-clause-text : goal.returns-in_err-send_to-clause-text
returns-in_err-send_to-clause-text g c =
    let p = err_from_is_err_and c.from_residual-in_err-send_to.result c.from_residual-in_err-send_to.ensures.1 in
    rw p.1 (prefix_longer _ _ (batch_line c.args.batch.number c.args.batch.cleaned.now) (flat_map phase_text c.args.phases.now) (sent_prefix _ _ _ _ c.send_to.result c.in_ok-fill_batch.ensures c.send_to.ensures.sent))

pub loop-plan-init : goal.loop-plan-init
loop-plan-init g c = record {
  taken = none_after _ _ (batch_line c.args.batch.number c.args.batch.cleaned.now) (sent_whole _ _ _ _ c.in_ok-fill_batch.ensures c.in_ok-send_to.ensures.sent);
  empty = c.in_ok-send_to.ensures.ok;
  faults = c.in_ok-send_to.ensures.cause;
}

pub write_phase-requires-clause-well_formed : goal.write_phase-requires-clause-well_formed
write_phase-requires-clause-well_formed g c =
    subst (λ (p : PhasePlan). (n : ℕ) × IsWellFormed n p) (sym c.plan-item.is) (c.requires.well_formed c.loop-plan.plan-index c.plan-item.result c.loop-plan-test.true)

pub returns-in_err-write_phase-clause-text : goal.returns-in_err-write_phase-clause-text
returns-in_err-write_phase-clause-text g c =
    let p = err_from_is_err_and c.from_residual-in_err-write_phase.result c.from_residual-in_err-write_phase.ensures.1 in
    rw p.1
    (
    prefix_after (batch_line c.args.batch.number c.args.batch.cleaned.now) phase_text c.args.phases.now c.loop-plan.plan-index c.plan-item.result c.plan-item.result _ _ _ c.loop-plan-test.true c.plan-item.is
    c.loop-plan.invariant.taken c.in_err-write_phase.ensures.text
    )

pub loop-plan-preserved : goal.loop-plan-preserved
loop-plan-preserved g c = record {
  taken = more_after (batch_line c.args.batch.number c.args.batch.cleaned.now) phase_text c.args.phases.now c.loop-plan.plan-index c.plan-item.result c.plan-item.result _ _ _ c.loop-plan-test.true c.plan-item.is c.loop-plan.invariant.taken c.in_ok-write_phase.ensures.text;
  empty = c.in_ok-write_phase.ensures.buffer;
  faults = c.in_ok-write_phase.ensures.cause ∙ c.loop-plan.invariant.faults;
}
