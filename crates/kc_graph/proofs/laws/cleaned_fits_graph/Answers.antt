use Rattle.kc_graph.proofs.CleaningLawLemmas.{cleaned_fits_graph}
use Rattle.kc_graph.proofs.laws.cleaned_fits_graph.Goals as goal

pub returns : goal.returns
returns c = cleaned_fits_graph
