use Rattle.kcore.proofs.Certified as law
use Rattle.kcore.proofs.laws.final_is_certified.Goals as goal

pub returns : goal.returns
returns c = law.final_is_certified
