use Rattle.kcore.proofs.DenseTexts as law
use Rattle.kcore.proofs.documents.dense.DenseDocument.has_documents.Goals as goal

pub returns : goal.returns
returns c = law.has_documents
