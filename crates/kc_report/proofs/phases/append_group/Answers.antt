use Rattle.std.proofs.lemmas.Result.{on_ok_weaker}
use Rattle.kc_report.proofs.TextLemmas.{group_filled}
use Rattle.kc_report.proofs.phases.append_group.Goals as goal

pub returns : goal.returns
returns g c =
    on_ok_weaker c.put-2.result
    (λ ended. group_filled c.args.group.now c.unwrap.result _ _ _ _ _ c.unwrap.ensures c.in_ok-put.ensures.ok c.in_ok-put_pair.ensures (rw c.as_slice.ensures at c.in_ok-fill.ensures) ended)
    c.put-2.ensures.ok
