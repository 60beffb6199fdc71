use Rattle.kcore.proofs.Explained as law
use Rattle.kcore.proofs.laws.run_is_explained.Goals as goal

pub returns : goal.returns
returns c = law.run_is_explained
