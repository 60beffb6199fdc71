use Rattle.std.proofs.Common.{◌∙◌, refl, get_or}
use Rattle.std.specs.List.{flat_map}
use Rattle.std.proofs.lemmas.Result.{err_from_is_err_and}
use Rattle.kc_text.proofs.lemmas.Writing.{prefix_longer, prefix_none}
use Rattle.kc_report.proofs.lemmas.Lines.{sent_prefix, sent_whole}
use Rattle.kc_report.proofs.lemmas.Texts.{none_after, more_after, prefix_after}
use Rattle.kserve.specs.Lines.{batch_line, take_line}
use Rattle.kserve.proofs.LineLemmas.{batch_filled, none}
use Rattle.kserve.proofs.lines.write_batch.Goals as goal

pub returns-in_err-send_to-clause-text : goal.returns-in_err-send_to-clause-text
returns-in_err-send_to-clause-text g c =
    let p = err_from_is_err_and c.from_residual-in_err-send_to.result c.from_residual-in_err-send_to.ensures.1 in
    rw p.1 (prefix_longer _ _ (batch_line c.args.batch.number) (flat_map take_line c.args.batch.updates.now) (sent_prefix _ _ _ _ c.send_to.result (batch_filled c.args.batch.number _ _ c.clear.ensures c.in_ok-put_named.ensures) c.send_to.ensures.sent))

pub loop-update-init : goal.loop-update-init
loop-update-init g c = record {
  taken = none_after _ _ (batch_line c.args.batch.number) (sent_whole _ _ _ _ (batch_filled c.args.batch.number _ _ c.clear.ensures c.in_ok-put_named.ensures) c.in_ok-send_to.ensures.sent);
  faults = c.in_ok-send_to.ensures.cause;
}

pub returns-in_err-fill_take-clause-text : goal.returns-in_err-fill_take-clause-text
returns-in_err-fill_take-clause-text g c =
    let p = err_from_is_err_and c.from_residual-in_err-fill_take.result c.from_residual-in_err-fill_take.ensures.1 in
    rw p.1
    (prefix_after (batch_line c.args.batch.number) take_line c.args.batch.updates.now c.loop-update.update-index none (get_or c.args.batch.updates.now c.loop-update.update-index none) _ _ _ c.loop-update-test.true refl c.loop-update.invariant.taken (prefix_none _ _ _ refl))

pub returns-in_err-send_to-2-clause-text : goal.returns-in_err-send_to-2-clause-text
returns-in_err-send_to-2-clause-text g c =
    let p = err_from_is_err_and c.from_residual-in_err-send_to-2.result c.from_residual-in_err-send_to-2.ensures.1 in
    rw p.1
    (prefix_after (batch_line c.args.batch.number) take_line c.args.batch.updates.now c.loop-update.update-index none (get_or c.args.batch.updates.now c.loop-update.update-index none) _ _ _ c.loop-update-test.true refl c.loop-update.invariant.taken (sent_prefix _ _ _ _ c.send_to-in-loop-update.result c.in_ok-fill_take.ensures c.send_to-in-loop-update.ensures.sent))

pub loop-update-preserved : goal.loop-update-preserved
loop-update-preserved g c = record {
  taken = more_after (batch_line c.args.batch.number) take_line c.args.batch.updates.now c.loop-update.update-index none (get_or c.args.batch.updates.now c.loop-update.update-index none) _ _ _ c.loop-update-test.true refl c.loop-update.invariant.taken (sent_whole _ _ _ _ c.in_ok-fill_take.ensures c.in_ok-send_to-2.ensures.sent);
  faults = c.in_ok-send_to-2.ensures.cause ∙ c.loop-update.invariant.faults;
}
