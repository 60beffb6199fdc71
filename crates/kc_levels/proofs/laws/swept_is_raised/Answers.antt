use Rattle.kc_levels.proofs.SweepLaw as law
use Rattle.kc_levels.proofs.laws.swept_is_raised.Goals as goal

pub returns : goal.returns
returns c = law.swept_is_raised
