use Rattle.kc_report.proofs.LineLemmas.{appends_as, refused_filled}
use Rattle.kc_report.proofs.refusals.write_refused.Goals as goal

pub returns-clause-text : goal.returns-clause-text
returns-clause-text g c =
    appends_as _ _ _ _ c.send_refusal.result (refused_filled c.args.number c.args.line c.args.reason _ _ _ c.clear.ensures c.in_ok-put_named.ensures c.in_ok-put.ensures.ok) c.send_refusal.ensures.text
