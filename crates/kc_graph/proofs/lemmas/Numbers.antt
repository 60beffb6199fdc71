-- What other crates may cite of lists of numbers: which numbers are in a list, and lists in ascending order.

-- a number is in two lists together where it is in one of them
pub use Rattle.kc_graph.proofs.NumberLemmas.{has_number-append}
-- a number is in a list and one number more where it is in the list or is that number
pub use Rattle.kc_graph.proofs.NumberLemmas.{has_number-push}
-- a number is in an ascending list into which y was put where it was there or is y
pub use Rattle.kc_graph.proofs.NumberLemmas.{has_number-put}
-- a number is in a list without y where it was there and isn't y
pub use Rattle.kc_graph.proofs.NumberLemmas.{has_number-without}
-- the number at a place of a list is in it
pub use Rattle.kc_graph.proofs.NumberLemmas.{has_number_at}
-- a number that is in a list stands at some place
pub use Rattle.kc_graph.proofs.NumberLemmas.{has_number_index}
-- a number that stands at no place isn't in the list
pub use Rattle.kc_graph.proofs.NumberLemmas.{has_number_nowhere}
-- an ascending list has no number below where it rises from
pub use Rattle.kc_graph.proofs.NumberLemmas.{has_number_below}
-- to take out a number that isn't there changes nothing
pub use Rattle.kc_graph.proofs.NumberLemmas.{without_absent}
-- a number that comes in makes a list longer by one
pub use Rattle.kc_graph.proofs.NumberLemmas.{length-put}
-- an ascending list from `low` to below n is no longer than there are such numbers
pub use Rattle.kc_graph.proofs.NumberLemmas.{length-rising}
-- each number of a list below n is below n
pub use Rattle.kc_graph.proofs.NumberLemmas.{all_from_below}
-- a list below n into which a number below n was put is below n
pub use Rattle.kc_graph.proofs.NumberLemmas.{below_from_put}
-- each number of an ascending list is at least where it rises from
pub use Rattle.kc_graph.proofs.NumberLemmas.{rises_at_least}
-- an ascending list into which a number was put is ascending
pub use Rattle.kc_graph.proofs.NumberLemmas.{rises_from_put}
-- a number of an ascending list is at most each one after it
pub use Rattle.kc_graph.proofs.NumberLemmas.{rises_in_order}
-- the numbers of an ascending list that pass a test are ascending
pub use Rattle.kc_graph.proofs.MergeLemmas.{rises_filter}
-- ascending lists of the same numbers are the same
pub use Rattle.kc_graph.proofs.NumberLemmas.{same_rising}
