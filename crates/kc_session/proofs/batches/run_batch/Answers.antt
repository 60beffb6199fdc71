use Rattle.std.proofs.Common.{◌+◌, refl, []}
use Rattle.std.proofs.lemmas.Result.{err_from_is_err_and}
use Rattle.kc_session.specs.private.Audiences.{shown_to}
use Rattle.kc_session.proofs.BatchSteps.{few_removed, few_added, few_quiet, well_formed, accepted_step, accepted_prefix, refused_step, refused_prefix, nothing_of, refused_line_written, refused_line_prefix}
use Rattle.kc_session.proofs.batches.run_batch.Goals as goal

pub write_accepted-requires-clause-few_removed : goal.write_accepted-requires-clause-few_removed
write_accepted-requires-clause-few_removed g c =
    let o = rw (c.replace.ensures.value, c.in-Accepted.is) at c.in_ok-cleaned-in-Items.ensures.outcome in
    let b = rw c.in-Items.is at c.requires.ready.batch.1 in
    rw o.1 (few_removed c.args.watched.now.engine.state.graph c.in-Items.batch.items c.requires.ready.open_for.sound.graph c.requires.ready.open_for.sound.few_edges b.inside)

pub write_accepted-requires-clause-few_added : goal.write_accepted-requires-clause-few_added
write_accepted-requires-clause-few_added g c =
    let o = rw (c.replace.ensures.value, c.in-Accepted.is) at c.in_ok-cleaned-in-Items.ensures.outcome in
    let b = rw c.in-Items.is at c.requires.ready.batch.1 in
    rw o.1 (few_added c.args.watched.now.engine.state.graph c.in-Items.batch.items c.requires.ready.open_for.sound.graph b.inside b.few)

pub write_accepted-requires-clause-few_quiet : goal.write_accepted-requires-clause-few_quiet
write_accepted-requires-clause-few_quiet g c =
    let o = rw (c.replace.ensures.value, c.in-Accepted.is) at c.in_ok-cleaned-in-Items.ensures.outcome in
    let b = rw c.in-Items.is at c.requires.ready.batch.1 in
    rw c.as_slice-phases.ensures (few_quiet c.args.watched.now.engine.state c.apply.new.watched.engine.state c.in-Items.batch.items c.in-Accepted.plan.phases c.requires.ready.open_for.sound.graph c.requires.ready.open_for.sound.few_edges b.inside b.few o.2)

pub write_accepted-requires-clause-well_formed : goal.write_accepted-requires-clause-well_formed
write_accepted-requires-clause-well_formed g c =
    let o = rw (c.replace.ensures.value, c.in-Accepted.is) at c.in_ok-cleaned-in-Items.ensures.outcome in
    rw c.as_slice-phases.ensures (well_formed c.args.watched.now.engine.state c.apply.new.watched.engine.state c.in-Items.batch.items c.in-Accepted.plan.phases o.2)

pub returns-in_err-write_accepted-in-Accepted-clause-step : goal.returns-in_err-write_accepted-in-Accepted-clause-step
returns-in_err-write_accepted-in-Accepted-clause-step g c =
    let o = rw (c.replace.ensures.value, c.in-Accepted.is) at c.in_ok-cleaned-in-Items.ensures.outcome in
    let p = err_from_is_err_and c.from_residual-in_err-write_accepted-in-Accepted.result c.from_residual-in_err-write_accepted-in-Accepted.ensures.1 in
    rw (p.1, c.in-Items.is)
    (accepted_prefix c.args.reporter.now.report (c.args.reporter.now.counts.batches + 1) c.args.watched.now.engine.state c.apply.new.watched.engine.state c.in-Items.batch c.in-Accepted.cleaned c.in-Accepted.plan.phases _ _ o.0 o.1 o.2
    (rw c.as_slice-phases.ensures at c.in_err-write_accepted-in-Accepted.ensures.text))

pub returns-in_ok-write_accepted-in-Accepted-clause-step : goal.returns-in_ok-write_accepted-in-Accepted-clause-step
returns-in_ok-write_accepted-in-Accepted-clause-step g c =
    let o = rw (c.replace.ensures.value, c.in-Accepted.is) at c.in_ok-cleaned-in-Items.ensures.outcome in
    rw (c.reuse.ensures, c.in-Items.is)
    (accepted_step c.args.reporter.now.report c.args.watched.now.engine.state c.apply.new.watched.engine.state c.in-Items.batch c.in-Accepted.cleaned c.in-Accepted.plan.phases _ _ c.args.reporter.now.counts _ (shown_to c.args.watched.now.audience) _ o.0 o.1 o.2
    (rw c.as_slice-phases.ensures at c.in_ok-write_accepted-in-Accepted.ensures.text) (rw c.as_slice-phases.ensures at c.with_accepted-counts.ensures) o.3)

pub returns-in_err-write_refusal-in-Refused-2-clause-step : goal.returns-in_err-write_refusal-in-Refused-2-clause-step
returns-in_err-write_refusal-in-Refused-2-clause-step g c =
    let o = rw (c.replace.ensures.value, c.in-Refused-2.is) at c.in_ok-cleaned-in-Items.ensures.outcome in
    let p = err_from_is_err_and c.from_residual-in_err-write_refusal-in-Refused-2.result c.from_residual-in_err-write_refusal-in-Refused-2.ensures.1 in
    rw (p.1, c.in-Items.is) (refused_prefix c.args.reporter.now.report (c.args.reporter.now.counts.batches + 1) c.args.watched.now.engine.state c.apply.new.watched.engine.state c.in-Items.batch c.in-Refused-2.reason _ _ o.0 c.in_err-write_refusal-in-Refused-2.ensures.text)

pub returns-in_ok-write_refusal-in-Refused-2-clause-step : goal.returns-in_ok-write_refusal-in-Refused-2-clause-step
returns-in_ok-write_refusal-in-Refused-2-clause-step g c =
    let o = rw (c.replace.ensures.value, c.in-Refused-2.is) at c.in_ok-cleaned-in-Items.ensures.outcome in
    rw c.in-Items.is (refused_step c.args.reporter.now.report c.args.watched.now.engine.state c.apply.new.watched.engine.state c.in-Items.batch c.in-Refused-2.reason _ _ c.args.reporter.now.counts _ (shown_to c.args.watched.now.audience) _ o.0 c.in_ok-write_refusal-in-Refused-2.ensures.text c.with_refused.ensures o.1)

pub returns-in_err-cleaned-in-Items-clause-step : goal.returns-in_err-cleaned-in-Items-clause-step
returns-in_err-cleaned-in-Items-clause-step g c =
    let p = err_from_is_err_and c.from_residual.result c.from_residual.ensures.1 in
    rw p.1 (nothing_of c.args.reporter.now.report (c.args.reporter.now.counts.batches + 1) (record { profile = c.requires.ready.batch.0; n = c.args.watched.now.engine.state.graph.vertices; asks = [] }) c.args.next.now c.args.watched.now.engine.state _ _ c.requires.ready.open_for.sound refl c.requires.ready.batch.1 refl)

pub returns-in_err-write_refusal-in-Refused-clause-step : goal.returns-in_err-write_refusal-in-Refused-clause-step
returns-in_err-write_refusal-in-Refused-clause-step g c =
    let p = err_from_is_err_and c.from_residual-in_err-write_refusal-in-Refused.result c.from_residual-in_err-write_refusal-in-Refused.ensures.1 in
    rw (p.1, c.in-Refused.is) (refused_line_prefix c.args.reporter.now.report (c.args.reporter.now.counts.batches + 1) c.in-Refused.line c.in-Refused.reason c.args.watched.now.engine.state _ _ c.in_err-write_refusal-in-Refused.ensures.text)

pub returns-in_ok-write_refusal-in-Refused-clause-step : goal.returns-in_ok-write_refusal-in-Refused-clause-step
returns-in_ok-write_refusal-in-Refused-clause-step g c =
    rw c.in-Refused.is (refused_line_written c.args.reporter.now.report c.in-Refused.line c.in-Refused.reason c.args.watched.now.engine.state _ _ c.args.reporter.now.counts _ (shown_to c.args.watched.now.audience) c.in_ok-write_refusal-in-Refused.ensures.text c.with_refused-in-Refused.ensures)
