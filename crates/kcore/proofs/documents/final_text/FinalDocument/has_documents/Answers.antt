use Rattle.kcore.proofs.FinalTexts as law
use Rattle.kcore.proofs.documents.final_text.FinalDocument.has_documents.Goals as goal

pub returns : goal.returns
returns c = law.has_documents
