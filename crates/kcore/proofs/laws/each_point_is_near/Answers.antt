use Rattle.kcore.proofs.Points as law
use Rattle.kcore.proofs.laws.each_point_is_near.Goals as goal

pub returns : goal.returns
returns c = law.each_point_is_near
