-- What other crates may cite of counts: of the numbers below n that pass a test, and of those in a list.

-- no more numbers below n pass a test than n
pub use Rattle.kc_graph.proofs.CountLemmas.{count_below-le}
-- a test that passes wherever another does counts no less
pub use Rattle.kc_graph.proofs.CountLemmas.{count_below-mono}
-- two tests that agree below n count the same
pub use Rattle.kc_graph.proofs.CountLemmas.{count_below_agree}
-- the count over a list is that of its first element and that of the others
pub use Rattle.kc_graph.proofs.CountLemmas.{count_by-cons}
-- a number that comes in counts where it passes the test
pub use Rattle.kc_graph.proofs.CountLemmas.{count_by-put}
-- a number that is taken out of an ascending list no longer counts
pub use Rattle.kc_graph.proofs.CountLemmas.{count_by-without}
