use Rattle.kcore.proofs.Holding as law
use Rattle.kcore.proofs.laws.each_state_holds.Goals as goal

pub returns : goal.returns
returns c = law.each_state_holds
