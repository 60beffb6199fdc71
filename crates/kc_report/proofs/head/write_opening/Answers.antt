use Rattle.std.proofs.Common.{◌∷◌, [], ◌++◌}
use Rattle.std.proofs.lemmas.Result.{err_from_is_err_and}
use Rattle.kc_text.proofs.lemmas.Writing.{prefix_all, prefix_longer, appends_then}
use Rattle.kc_report.specs.Lines.{vertices_line}
use Rattle.kc_report.proofs.LineLemmas.{sent_as, sent_prefix, sent_whole, words_filled, vertices_filled}
use Rattle.kc_report.proofs.head.write_opening.Goals as goal

pub returns-in_err-send_to-clause-text : goal.returns-in_err-send_to-clause-text
returns-in_err-send_to-clause-text g c =
    let p = err_from_is_err_and c.from_residual-in_err-send_to.result c.from_residual-in_err-send_to.ensures.1 in
    let filled = words_filled c.args.words.now _ _ c.clear.ensures c.in_ok-put.ensures.ok in
    rw p.1 (prefix_longer _ _ (c.args.words.now ++ 10 ∷ []) (vertices_line c.args.n) (sent_prefix _ _ _ _ c.send_to.result filled c.send_to.ensures.sent))

pub returns-in_err-put_named-clause-text : goal.returns-in_err-put_named-clause-text
returns-in_err-put_named-clause-text g c =
    let p = err_from_is_err_and c.from_residual-in_err-put_named.result c.from_residual-in_err-put_named.ensures.1 in
    let filled = words_filled c.args.words.now _ _ c.clear.ensures c.in_ok-put.ensures.ok in
    rw p.1 (prefix_longer _ _ (c.args.words.now ++ 10 ∷ []) (vertices_line c.args.n) (prefix_all _ _ _ (sent_whole _ _ _ _ filled c.in_ok-send_to.ensures.sent)))

pub returns-clause-text : goal.returns-clause-text
returns-clause-text g c =
    let filled = words_filled c.args.words.now _ _ c.clear.ensures c.in_ok-put.ensures.ok in
    appends_then _ _ _ (c.args.words.now ++ 10 ∷ []) (vertices_line c.args.n) c.send_to-2.result (sent_whole _ _ _ _ filled c.in_ok-send_to.ensures.sent)
    (sent_as _ _ _ _ _ (vertices_filled c.args.n _ _ c.in_ok-send_to.ensures.ok c.in_ok-put_named.ensures) c.send_to-2.ensures.sent)
