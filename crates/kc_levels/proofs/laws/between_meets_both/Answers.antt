use Rattle.kc_levels.proofs.BetweenLaw.{between_meets_both}
use Rattle.kc_levels.proofs.laws.between_meets_both.Goals as goal

pub returns : goal.returns
returns c = between_meets_both
