use Rattle.std.proofs.lemmas.Result.{on_ok_weaker}
use Rattle.kcore.proofs.LoadTexts.{load_filled}
use Rattle.kcore.proofs.load.fill_load.Goals as goal

pub returns : goal.returns
returns c =
    on_ok_weaker c.put_named-8.result
    (λ last. load_filled c.args.ended.now c.from.result _ _ _ _ _ _ _ _ _ c.clear.ensures c.in_ok-put_named.ensures c.in_ok-put_named-2.ensures c.in_ok-put_named-3.ensures c.in_ok-put_named-4.ensures c.in_ok-put_named-5.ensures c.in_ok-put_named-6.ensures c.in_ok-put_named-7.ensures c.from.ensures last)
    c.put_named-8.ensures
