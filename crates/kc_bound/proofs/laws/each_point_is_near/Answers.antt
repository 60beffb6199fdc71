use Rattle.kc_bound.proofs.PointLaw as law
use Rattle.kc_bound.proofs.laws.each_point_is_near.Goals as goal

pub returns-clause-both : goal.returns-clause-both
returns-clause-both c = law.both_are_near

pub returns-clause-point : goal.returns-clause-point
returns-clause-point c = law.each_point_is_near
