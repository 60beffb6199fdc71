use Rattle.std.proofs.Common.{refl}
use Rattle.std.proofs.lemmas.Result.{err_from_is_err_and}
use Rattle.kc_batch.specs.Tokens.{tokens_left}
use Rattle.kcore.specs.RunText.{IsRunOf}
use Rattle.kcore.proofs.InputTexts.{after_header, not_opened}
use Rattle.kcore.proofs.Texts.{has_texts, run_written, run_stopped}
use Rattle.kcore.proofs.run.run_input.Goals as goal

pub returns-in_err-header-clause-text : goal.returns-in_err-header-clause-text
returns-in_err-header-clause-text g c =
    let p = err_from_is_err_and c.from_residual.result c.from_residual.ensures.1 in
    rw p.1 (not_opened IsRunOf has_texts (g.S.Source.left c.args.src.now) _ _ p.0 c.in_err-header.ensures.text)

pub returns-in_err-ended-clause-text : goal.returns-in_err-ended-clause-text
returns-in_err-ended-clause-text g c =
    let o = rw c.in-Some.is at c.in_ok-header.ensures.text in
    let p = err_from_is_err_and c.from_residual-in_err-ended.result c.from_residual-in_err-ended.ensures.1 in
    rw p.1 (after_header IsRunOf c.in-Some.header _ _ _ _ _ _ o.0 o.1 (run_stopped c.in-Some.header (tokens_left c.in-Some.lines (g.S.Source.left c.open_input.new.src)) _ _ p.0 _ c.in_err-ended.ensures.text))

pub returns-clause-text : goal.returns-clause-text
returns-clause-text g c =
    let o = rw c.in-Some.is at c.in_ok-header.ensures.text in
    after_header IsRunOf c.in-Some.header _ _ _ _ _ _ o.0 o.1 (run_written c.in-Some.header (tokens_left c.in-Some.lines (g.S.Source.left c.open_input.new.src)) _ _ c.in_ok-ended.ended _ refl c.in_ok-ended.ensures.text)
