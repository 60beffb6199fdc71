use Rattle.std.proofs.Common.{refl}
use Rattle.kc_report.proofs.LineLemmas.{sent_as}
use Rattle.kc_report.proofs.head.put_end.Goals as goal

pub returns-clause-text : goal.returns-clause-text
returns-clause-text g c = sent_as _ _ _ _ _ (rw (c.in_ok-put.ensures.ok, c.clear.ensures) refl) c.send_to.ensures.sent
