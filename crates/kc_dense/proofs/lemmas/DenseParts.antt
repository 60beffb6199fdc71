-- What other crates may cite of dense parts of a graph.

-- each graph has a dense part
pub use Rattle.kc_dense.proofs.PeelingLemmas.{each_has_dense_part}
-- no graph has two dense parts
pub use Rattle.kc_dense.proofs.PeelingLemmas.{dense_part_is_one}
-- no vertices of a graph are more than twice as dense as its dense part
pub use Rattle.kc_dense.proofs.FactorLemmas.{dense_part_is_half_as_dense}
