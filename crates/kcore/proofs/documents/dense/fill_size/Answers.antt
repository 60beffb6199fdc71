use Rattle.std.proofs.lemmas.Result.{on_ok_weaker}
use Rattle.kcore.proofs.DenseLineLemmas.{size_filled}
use Rattle.kcore.proofs.documents.dense.fill_size.Goals as goal

pub returns : goal.returns
returns c =
    on_ok_weaker c.put_named-2.result
    (λ edges. size_filled c.args.size c.args.edges _ _ _ c.clear.ensures c.in_ok-put_named.ensures edges)
    c.put_named-2.ensures
