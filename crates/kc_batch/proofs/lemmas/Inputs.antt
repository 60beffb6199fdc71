-- The lemmas that other crates may cite about inputs: their header and their batches.

-- the items of each batch that was read are in the ranges of the header
pub use Rattle.kc_batch.proofs.BatchRanges.{batches_keep_ranges}
-- what each step keeps of its place and gives of its batch holds of all batches
pub use Rattle.kc_batch.proofs.BatchRanges.{steps_give}
-- a new reader has the whole input to give
pub use Rattle.kc_batch.proofs.InputLemmas.{told_input}
-- an input with a header is that header, and the batches of what is left
pub use Rattle.kc_batch.proofs.InputLemmas.{told_accepted}
-- an input without a header is refused at the line
pub use Rattle.kc_batch.proofs.InputLemmas.{told_refused}
-- the ranges of an ask that fits
pub use Rattle.kc_batch.proofs.Asking.{fits}
-- the value of a definition for lines with one put before them is the value of another for the lines after it
pub use Rattle.kc_batch.proofs.Stepping.{step_on}
-- a header ends at the first line that isn't of it
pub use Rattle.kc_batch.proofs.HeaderEnds.{first_other_line_ends}
