use Rattle.kc_groups.proofs.SizeLaw as law
use Rattle.kc_groups.proofs.sizes.plans_are_small.Goals as goal

pub returns : goal.returns
returns c = law.plans_are_small
