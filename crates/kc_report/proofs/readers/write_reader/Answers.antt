use Rattle.kc_report.proofs.LineLemmas.{sent_as}
use Rattle.kc_report.proofs.readers.write_reader.Goals as goal

pub returns-clause-text : goal.returns-clause-text
returns-clause-text g c = sent_as _ _ _ _ _ c.in_ok-fill_reader.ensures c.send_to.ensures.sent
