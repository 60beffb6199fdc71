use Rattle.std.proofs.lemmas.Result.{on_ok_weaker}
use Rattle.kc_report.proofs.TextLemmas.{phase_filled}
use Rattle.kc_report.proofs.phases.fill_phase.Goals as goal

pub returns : goal.returns
returns c =
    on_ok_weaker c.put_named-2.result
    (λ last. phase_filled c.args.plan.now c.len-quiet.result _ _ _ _ c.clear.ensures c.len-quiet.ensures c.in_ok-put_named.ensures c.direction.ensures last)
    c.put_named-2.ensures
