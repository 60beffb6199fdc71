use Rattle.std.proofs.lemmas.Result.{err_from_is_err_and}
use Rattle.kcore.proofs.Audits.{nothing_written, verdict_written, verdict_prefix, refused_written, refused_prefix}
use Rattle.kcore.proofs.audit.audit_input.Goals as goal

pub returns-in_err-lines-clause-text : goal.returns-in_err-lines-clause-text
returns-in_err-lines-clause-text g c =
    let p = err_from_is_err_and c.from_residual.result c.from_residual.ensures.1 in
    rw p.1 (nothing_written (g.S.Source.left c.args.src.now) (g.K.Sink.taken c.args.sink.now) p.0)

pub returns-in_err-verdict-in-Ok-clause-text : goal.returns-in_err-verdict-in-Ok-clause-text
returns-in_err-verdict-in-Ok-clause-text g c =
    let p = err_from_is_err_and c.from_residual-in_err-verdict-in-Ok.result c.from_residual-in_err-verdict-in-Ok.ensures.1 in
    rw p.1 (nothing_written (g.S.Source.left c.args.src.now) (g.K.Sink.taken c.args.sink.now) p.0)

pub returns-in_err-write_verdict-in-Ok-clause-text : goal.returns-in_err-write_verdict-in-Ok-clause-text
returns-in_err-write_verdict-in-Ok-clause-text g c =
    let p = err_from_is_err_and c.from_residual-in_err-write_verdict-in-Ok.result c.from_residual-in_err-write_verdict-in-Ok.ensures.1 in
    rw p.1 (verdict_prefix c.in_ok-lines.lines (g.S.Source.left c.args.src.now) _ _ c.in-Ok.run' c.in_ok-verdict-in-Ok.verdict p.0 c.in_ok-lines.ensures.lines c.in-Ok.ensures.document c.in_ok-verdict-in-Ok.ensures c.in_err-write_verdict-in-Ok.ensures.text)

pub returns-in-Ok-clause-text : goal.returns-in-Ok-clause-text
returns-in-Ok-clause-text g c =
    verdict_written c.in_ok-lines.lines (g.S.Source.left c.args.src.now) _ _ c.in-Ok.run' c.in_ok-verdict-in-Ok.verdict c.is_unexplained.result c.in_ok-lines.ensures.lines c.in-Ok.ensures.document c.in_ok-verdict-in-Ok.ensures c.is_unexplained.ensures c.in_ok-write_verdict-in-Ok.ensures.text

pub returns-in_err-write_refusal-in-Err-Refused-clause-text : goal.returns-in_err-write_refusal-in-Err-Refused-clause-text
returns-in_err-write_refusal-in-Err-Refused-clause-text g c =
    let p = err_from_is_err_and c.from_residual-in_err-write_refusal-in-Err-Refused.result c.from_residual-in_err-write_refusal-in-Err-Refused.ensures.1 in
    rw p.1 (refused_prefix c.in_ok-lines.lines (g.S.Source.left c.args.src.now) _ _ c.in-Err-Refused.line c.in-Err-Refused.reason p.0 c.in_ok-lines.ensures.lines (rw c.in-Err-Refused.field-0-is at c.in-Err-Refused.ensures.document) c.in_err-write_refusal-in-Err-Refused.ensures.text)

pub returns-in-Err-Refused-clause-text : goal.returns-in-Err-Refused-clause-text
returns-in-Err-Refused-clause-text g c =
    refused_written c.in_ok-lines.lines (g.S.Source.left c.args.src.now) _ _ c.in-Err-Refused.line c.in-Err-Refused.reason c.in_ok-lines.ensures.lines (rw c.in-Err-Refused.field-0-is at c.in-Err-Refused.ensures.document) c.in_ok-write_refusal-in-Err-Refused.ensures.text

pub returns-in-Err-ReadFault-clause-text : goal.returns-in-Err-ReadFault-clause-text
returns-in-Err-ReadFault-clause-text g c = nothing_written (g.S.Source.left c.args.src.now) (g.K.Sink.taken c.args.sink.now) _

pub returns-clause-text : goal.returns-clause-text
returns-clause-text g c = nothing_written (g.S.Source.left c.args.src.now) (g.K.Sink.taken c.args.sink.now) _
