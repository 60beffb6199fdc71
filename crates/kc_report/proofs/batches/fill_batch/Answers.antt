use Rattle.std.proofs.lemmas.Result.{on_ok_weaker}
use Rattle.kc_report.proofs.LineLemmas.{batch_filled}
use Rattle.kc_report.proofs.batches.fill_batch.Goals as goal

pub returns : goal.returns
returns c =
    on_ok_weaker c.put_named-2.result
    (λ added. batch_filled c.args.number c.len.result c.len-2.result c.args.cleaned.now _ _ _ _ c.clear.ensures c.in_ok-fill_counts.ensures c.len.ensures c.len-2.ensures c.in_ok-put_named.ensures added)
    c.put_named-2.ensures
