use Rattle.kc_groups.proofs.EdgesLaw as law
use Rattle.kc_groups.proofs.laws.edges_are_dealt_once.Goals as goal

pub returns : goal.returns
returns c = law.edges_are_dealt_once
