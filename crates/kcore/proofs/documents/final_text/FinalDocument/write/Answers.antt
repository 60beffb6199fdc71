use Rattle.kcore.proofs.FinalTexts.{final_written}
use Rattle.kcore.proofs.documents.final_text.FinalDocument.write.Goals as goal

pub returns-clause-text : goal.returns-clause-text
returns-clause-text g c = rw (← c.last.view_is) (final_written c.last.inside.engine.now.state c.last.inside.profile _ _ _ _ c.write_certificate.result c.last.invariant.profile_is c.graph.ensures.value c.levels.ensures.value c.write_certificate.ensures.text)
