use Rattle.std.proofs.lemmas.Result.{on_ok_weaker}
use Rattle.kc_report.proofs.LineLemmas.{coreness_filled}
use Rattle.kc_report.proofs.exact.fill_coreness.Goals as goal

pub returns : goal.returns
returns c =
    on_ok_weaker c.put_named-5.result
    (λ high. coreness_filled c.args.v c.args.coreness c.args.estimate _ _ _ _ _ _ c.clear.ensures
    c.in_ok-put_named.ensures c.in_ok-put_named-2.ensures c.in_ok-put_named-3.ensures c.in_ok-put_named-4.ensures high)
    c.put_named-5.ensures
