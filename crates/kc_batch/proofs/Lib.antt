pub mod lemmas
mod Aheads
mod Asking
mod BatchRanges
mod FaultDecides
mod Following
mod HeaderEnds
mod InputLemmas
mod ItemLines
mod LineEnds
mod NumberLines
mod Saying
mod Stepping
