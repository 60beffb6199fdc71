use Rattle.std.proofs.lemmas.Result.{on_ok_weaker}
use Rattle.kcore.proofs.OrientLineLemmas.{oriented_filled}
use Rattle.kcore.proofs.documents.orient.fill_oriented.Goals as goal

pub returns : goal.returns
returns c =
    on_ok_weaker c.fill_vertices.result
    (λ outs. oriented_filled c.args.v c.args.colour c.args.out.now _ _ _ _ _ c.clear.ensures c.in_ok-put_named.ensures c.in_ok-put_named-2.ensures c.in_ok-put.ensures.ok outs)
    c.fill_vertices.ensures
