use Rattle.kcore.proofs.ExactTexts as law
use Rattle.kcore.proofs.documents.exact.ExactDocument.has_documents.Goals as goal

pub returns : goal.returns
returns c = law.has_documents
