use Rattle.std.proofs.Common.{refl, ◌∙◌}
use Rattle.std.proofs.lemmas.Result.{err_from_is_err_and}
use Rattle.kc_batch.specs.Tokens.{tokens_left}
use Rattle.kcore.specs.Documents.{EndsInDocument}
use Rattle.kcore.proofs.Causes.{sent_cause}
use Rattle.kcore.proofs.InputTexts.{after_header, not_opened}
use Rattle.kcore.proofs.DocumentTexts.{has_texts, notes_prefix, document_prefix, document_written}
use Rattle.kcore.proofs.documents.settle_input.Goals as goal

pub returns-in_err-header-clause-text : goal.returns-in_err-header-clause-text
returns-in_err-header-clause-text g c =
    let p = err_from_is_err_and c.from_residual.result c.from_residual.ensures.1 in
    rw p.1 (not_opened (EndsInDocument g.D.Document.is_document) (has_texts g.D.Document.is_document c.has_documents.ensures) (g.S.Source.left c.args.src.now) _ _ p.0 c.in_err-header.ensures.text)

pub returns-in_err-settled-clause-text : goal.returns-in_err-settled-clause-text
returns-in_err-settled-clause-text g c =
    let o = rw c.in-Some.is at c.in_ok-header.ensures.text in
    let p = err_from_is_err_and c.from_residual-in_err-settled.result c.from_residual-in_err-settled.ensures.1 in
    rw p.1 (after_header (EndsInDocument g.D.Document.is_document) c.in-Some.header _ _ _ _ _ _ o.0 o.1
    (notes_prefix g.D.Document.is_document c.has_documents.ensures c.in-Some.header (tokens_left c.in-Some.lines (g.S.Source.left c.open_input.new.src)) _ _ p.0 _ c.in_err-settled.ensures.text))

pub returns-in_err-write-clause-text : goal.returns-in_err-write-clause-text
returns-in_err-write-clause-text g c =
    let o = rw c.in-Some.is at c.in_ok-header.ensures.text in
    let p = err_from_is_err_and c.from_residual-in_err-write.result c.from_residual-in_err-write.ensures.1 in
    rw p.1 (after_header (EndsInDocument g.D.Document.is_document) c.in-Some.header _ _ _ _ _ _ o.0 o.1
    (document_prefix g.D.Document.is_document c.in-Some.header _ c.in_ok-settled.settled _ _ _ p.0 _ c.in_ok-settled.ensures.text c.in_err-write.ensures.text))

pub returns-in_err-write-clause-cause : goal.returns-in_err-write-clause-cause
returns-in_err-write-clause-cause g c =
    let p = err_from_is_err_and c.from_residual-in_err-write.result c.from_residual-in_err-write.ensures.1 in
    rw p.1 (sent_cause _ _ _ _ _ _ p.0 (c.in_ok-settled.ensures.cause.0 ∙ c.in_ok-header.ensures.cause.0) (c.in_ok-settled.ensures.cause.1 ∙ c.in_ok-header.ensures.cause.1) c.in_err-write.ensures.cause p.2)

pub returns-clause-text : goal.returns-clause-text
returns-clause-text g c =
    let o = rw c.in-Some.is at c.in_ok-header.ensures.text in
    after_header (EndsInDocument g.D.Document.is_document) c.in-Some.header _ _ _ _ _ _ o.0 o.1
    (document_written g.D.Document.is_document c.in-Some.header _ c.in_ok-settled.settled _ _ _ _ _ refl c.in_ok-settled.ensures.text c.in_ok-write.ensures.text)
