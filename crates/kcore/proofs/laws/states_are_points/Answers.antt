use Rattle.kcore.proofs.Points as law
use Rattle.kcore.proofs.laws.states_are_points.Goals as goal

pub returns : goal.returns
returns c = law.states_are_points
