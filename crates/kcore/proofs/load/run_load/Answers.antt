use Rattle.std.proofs.Common.{inl}
use Rattle.std.proofs.lemmas.Result.{err_from_is_err_and}
use Rattle.std.specs.Prelude.{Some}
use Rattle.kcore.specs.LoadText.{IsLoadOf}
use Rattle.kcore.proofs.InputTexts.{after_header, not_opened}
use Rattle.kcore.proofs.LoadTexts.{has_texts, load_prefix}
use Rattle.kcore.proofs.load.run_load.Goals as goal

pub returns-in_err-header-clause-text : goal.returns-in_err-header-clause-text
returns-in_err-header-clause-text g c =
    let p = err_from_is_err_and c.from_residual.result c.from_residual.ensures.1 in
    rw p.1 (not_opened IsLoadOf has_texts (Some c.args.source) _ _ p.0 c.in_err-header.ensures.text)

pub returns-in_err-ended-clause-text : goal.returns-in_err-ended-clause-text
returns-in_err-ended-clause-text g c =
    let o = rw c.in-Some.is at c.in_ok-header.ensures.text in
    let p = err_from_is_err_and c.from_residual-in_err-ended.result c.from_residual-in_err-ended.ensures.1 in
    rw p.1 (not_opened IsLoadOf has_texts (Some c.args.source) _ _ p.0 (inl o.1))

pub returns-in_err-write_load-clause-text : goal.returns-in_err-write_load-clause-text
returns-in_err-write_load-clause-text g c =
    let o = rw c.in-Some.is at c.in_ok-header.ensures.text in
    let p = err_from_is_err_and c.from_residual-in_err-write_load.result c.from_residual-in_err-write_load.ensures.1 in
    rw p.1 (after_header IsLoadOf c.in-Some.header _ _ _ _ _ _ o.0 o.1 (load_prefix c.in-Some.header _ _ _ _ _ c.in_ok-ended.ended p.0 c.in_ok-ended.ensures.text c.in_err-write_load.ensures.text))
