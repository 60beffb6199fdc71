use Rattle.std.proofs.Common.{◌∙◌, sym, ap}
use Rattle.std.specs.Prelude.{Ok, Err}
use Rattle.std.proofs.lemmas.Result.{err_from_is_err_and}
use Rattle.kc_cert.specs.Documents.{AtBody, AtInputEnd, Done, onward}
use Rattle.kc_cert.proofs.Stepping.{reaches_on, answers_before, answers_misfit, answers_accepted}
use Rattle.kc_cert.proofs.read.read_end.Goals as goal

pub returns-in_err-fit_at-clause-document : goal.returns-in_err-fit_at-clause-document
returns-in_err-fit_at-clause-document g c =
    let p = err_from_is_err_and c.from_residual-in_err-fit_at.result c.from_residual-in_err-fit_at.ensures.1 in
    rw (p.1, p.2) (answers_misfit (AtBody c.args.cert 0 0 0 0) (λ u. AtInputEnd c.args.cert) c.in_ok-close.close _ _ _ _ (ap (onward (λ u. AtInputEnd c.args.cert)) (sym c.close_of.ensures)) c.in_ok-close.ensures.token c.in_err-fit_at.ensures.fits)

pub returns-in_err-fit_at-2-clause-document : goal.returns-in_err-fit_at-2-clause-document
returns-in_err-fit_at-2-clause-document g c =
    let p = err_from_is_err_and c.from_residual-in_err-fit_at-2.result c.from_residual-in_err-fit_at-2.ensures.1 in
    let told = reaches_on (AtBody c.args.cert 0 0 0 0) (AtInputEnd c.args.cert) c.in_ok-close.close _ _ (ap (onward (λ u. AtInputEnd c.args.cert)) (sym c.close_of.ensures ∙ c.in_ok-fit_at.ensures.fits)) tt c.in_ok-close.ensures.token in
    rw (p.1, p.2) (answers_before _ _ _ _ (Err c.in_err-fit_at-2.field-0.0) told (answers_misfit (AtInputEnd c.args.cert) (λ u. Done c.args.cert) c.in_ok-last.last _ _ _ _ (ap (onward (λ u. Done c.args.cert)) (sym c.input_end_of.ensures)) c.in_ok-last.ensures.token c.in_err-fit_at-2.ensures.fits))

pub returns-clause-document : goal.returns-clause-document
returns-clause-document g c =
    let told = reaches_on (AtBody c.args.cert 0 0 0 0) (AtInputEnd c.args.cert) c.in_ok-close.close _ _ (ap (onward (λ u. AtInputEnd c.args.cert)) (sym c.close_of.ensures ∙ c.in_ok-fit_at.ensures.fits)) tt c.in_ok-close.ensures.token in
    answers_before _ _ _ _ (Ok c.args.cert) told (answers_accepted c.args.cert c.in_ok-last.last _ _ _ (sym c.input_end_of.ensures ∙ c.in_ok-fit_at-2.ensures.fits) c.in_ok-last.ensures.token)
