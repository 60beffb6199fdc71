use Rattle.kcore.proofs.OrientTexts as law
use Rattle.kcore.proofs.documents.orient.OrientDocument.has_documents.Goals as goal

pub returns : goal.returns
returns c = law.has_documents
