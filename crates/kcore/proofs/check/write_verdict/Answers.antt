use Rattle.kc_report.proofs.lemmas.Lines.{sent_as}
use Rattle.kcore.proofs.check.write_verdict.Goals as goal

pub returns-clause-text : goal.returns-clause-text
returns-clause-text g c = sent_as _ _ _ _ _ c.in_ok-fill_verdict.ensures c.send_to.ensures.sent
