use Rattle.std.proofs.lemmas.Result.{err_from_is_err_and}
use Rattle.kcore.proofs.Checks.{nothing_written, verdict_written, verdict_prefix, refused_written, refused_prefix}
use Rattle.kcore.proofs.check.check_input.Goals as goal

pub returns-in_err-lines-clause-text : goal.returns-in_err-lines-clause-text
returns-in_err-lines-clause-text g c =
    let p = err_from_is_err_and c.from_residual.result c.from_residual.ensures.1 in
    rw p.1 (nothing_written (g.S.Source.left c.args.src.now) (g.K.Sink.taken c.args.sink.now) p.0)

pub returns-in_err-th-in-Ok-clause-text : goal.returns-in_err-th-in-Ok-clause-text
returns-in_err-th-in-Ok-clause-text g c =
    let p = err_from_is_err_and c.from_residual-in_err-th-in-Ok.result c.from_residual-in_err-th-in-Ok.ensures.1 in
    rw p.1 (nothing_written (g.S.Source.left c.args.src.now) (g.K.Sink.taken c.args.sink.now) p.0)

pub returns-in_err-write_verdict-in-Ok-clause-text : goal.returns-in_err-write_verdict-in-Ok-clause-text
returns-in_err-write_verdict-in-Ok-clause-text g c =
    let p = err_from_is_err_and c.from_residual-in_err-write_verdict-in-Ok.result c.from_residual-in_err-write_verdict-in-Ok.ensures.1 in
    rw p.1 (verdict_prefix c.in_ok-lines.lines (g.S.Source.left c.args.src.now) _ _ c.in-Ok.cert c.verify-verdict.result p.0 c.in_ok-lines.ensures.lines c.in-Ok.ensures.document c.verify-verdict.ensures c.in_err-write_verdict-in-Ok.ensures.text)

pub returns-in-Ok-clause-text : goal.returns-in-Ok-clause-text
returns-in-Ok-clause-text g c =
    verdict_written c.in_ok-lines.lines (g.S.Source.left c.args.src.now) _ _ c.in-Ok.cert c.verify-verdict.result c.is_breach.result c.in_ok-lines.ensures.lines c.in-Ok.ensures.document c.verify-verdict.ensures c.is_breach.ensures c.in_ok-write_verdict-in-Ok.ensures.text

pub returns-in_err-write_refusal-in-Err-Refused-clause-text : goal.returns-in_err-write_refusal-in-Err-Refused-clause-text
returns-in_err-write_refusal-in-Err-Refused-clause-text g c =
    let p = err_from_is_err_and c.from_residual-in_err-write_refusal-in-Err-Refused.result c.from_residual-in_err-write_refusal-in-Err-Refused.ensures.1 in
    rw p.1 (refused_prefix c.in_ok-lines.lines (g.S.Source.left c.args.src.now) _ _ c.in-Err-Refused.line c.in-Err-Refused.reason p.0 c.in_ok-lines.ensures.lines (rw c.in-Err-Refused.field-0-is at c.in-Err-Refused.ensures.document) c.in_err-write_refusal-in-Err-Refused.ensures.text)

pub returns-in-Err-Refused-clause-text : goal.returns-in-Err-Refused-clause-text
returns-in-Err-Refused-clause-text g c =
    refused_written c.in_ok-lines.lines (g.S.Source.left c.args.src.now) _ _ c.in-Err-Refused.line c.in-Err-Refused.reason c.in_ok-lines.ensures.lines (rw c.in-Err-Refused.field-0-is at c.in-Err-Refused.ensures.document) c.in_ok-write_refusal-in-Err-Refused.ensures.text

pub returns-in-Err-ReadFault-clause-text : goal.returns-in-Err-ReadFault-clause-text
returns-in-Err-ReadFault-clause-text g c = nothing_written (g.S.Source.left c.args.src.now) (g.K.Sink.taken c.args.sink.now) _

pub returns-clause-text : goal.returns-clause-text
returns-clause-text g c = nothing_written (g.S.Source.left c.args.src.now) (g.K.Sink.taken c.args.sink.now) _
