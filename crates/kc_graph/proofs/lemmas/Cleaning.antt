-- What other crates may cite of what is left of a batch once it is cleaned.

-- the cleaned batch of items inside a graph fits the graph
pub use Rattle.kc_graph.proofs.CleaningLawLemmas.{cleaned_fits_graph}
-- each item of a batch counts once
pub use Rattle.kc_graph.proofs.CountingLemmas.{each_item_counts_once}
