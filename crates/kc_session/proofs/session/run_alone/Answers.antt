use Rattle.std.proofs.Common.{[], None, refl, ◌∙◌}
use Rattle.std.proofs.lemmas.Result.{err_from_is_err_and}
use Rattle.kc_batch.specs.Tokens.{tokens_left}
use Rattle.kc_session.specs.declared.counts.Counts.{Counts}
use Rattle.kc_session.specs.declared.ended.Ended.{Ended}
use Rattle.kc_session.proofs.Causes.{same_cause, sent_cause}
use Rattle.kc_session.proofs.SessionTexts.{batches_prefix, rest_prefix, rest_written, no_replies}
use Rattle.kc_session.proofs.session.run_alone.Goals as goal

pub returns-in_err-counts-clause-text : goal.returns-in_err-counts-clause-text
returns-in_err-counts-clause-text g c =
    let p = err_from_is_err_and c.from_residual.result c.from_residual.ensures.1 in
    rw p.1 (batches_prefix (record { profile = c.args.context.now.profile; n = c.args.context.now.n; asks = [] }) (tokens_left c.args.lines.now (g.S.Source.left c.args.src.now)) _ _ _ _ _ _ p.0 _ c.requires.start (rw c.requires.report at c.in_err-counts.ensures.run.text))

pub returns-in_err-counts-clause-cause : goal.returns-in_err-counts-clause-cause
returns-in_err-counts-clause-cause g c =
    let p = err_from_is_err_and c.from_residual.result c.from_residual.ensures.1 in
    rw p.1 (same_cause Counts Ended _ _ _ _ _ p.0 p.2 c.in_err-counts.ensures.cause)

pub returns-in_err-write_tail-clause-text : goal.returns-in_err-write_tail-clause-text
returns-in_err-write_tail-clause-text g c =
    let levels = c.as_slice-levels.ensures ∙ c.levels.ensures.value in
    let p = err_from_is_err_and c.from_residual-in_err-write_tail.result c.from_residual-in_err-write_tail.ensures.1 in
    rw p.1 (rest_prefix (record { profile = c.args.context.now.profile; n = c.args.context.now.n; asks = [] }) (tokens_left c.args.lines.now (g.S.Source.left c.args.src.now)) _ _ _ _ _ _ _ c.in_ok-counts.counts [] p.0 c.requires.start (rw (c.requires.report, c.requires.alone) at c.in_ok-counts.ensures.run.text) (no_replies c.args.context.now.n None _ [] refl) (rw levels at c.in_err-write_tail.ensures.text))

pub returns-in_err-write_tail-clause-cause : goal.returns-in_err-write_tail-clause-cause
returns-in_err-write_tail-clause-cause g c =
    let p = err_from_is_err_and c.from_residual-in_err-write_tail.result c.from_residual-in_err-write_tail.ensures.1 in
    rw p.1 (sent_cause Counts Ended _ _ _ _ _ _ p.0 c.in_ok-counts.ensures.cause.0 c.in_ok-counts.ensures.cause.1 c.in_err-write_tail.ensures.cause p.2)

pub returns-clause-text : goal.returns-clause-text
returns-clause-text g c =
    let levels = c.as_slice-levels.ensures ∙ c.levels.ensures.value in
    rest_written (record { profile = c.args.context.now.profile; n = c.args.context.now.n; asks = [] }) (tokens_left c.args.lines.now (g.S.Source.left c.args.src.now)) _ _ _ _ _ _ _ c.in_ok-counts.counts [] c.as_slice-levels.result.now c.with.result c.requires.start (rw (c.requires.report, c.requires.alone) at c.in_ok-counts.ensures.run.text) (no_replies c.args.context.now.n None _ [] refl) (rw levels at c.in_ok-write_tail.ensures.text) levels c.with.ensures
