use Rattle.kc_report.proofs.LineLemmas.{sent_as}
use Rattle.kc_report.proofs.vertices.write_vertex.Goals as goal

pub returns-clause-text : goal.returns-clause-text
returns-clause-text g c = sent_as _ _ _ _ _ c.in_ok-fill_vertex.ensures c.send_to.ensures.sent
