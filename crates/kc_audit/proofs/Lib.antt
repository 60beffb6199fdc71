pub mod lemmas
mod FlatLemmas
mod LineLemmas
mod MoveLemmas
mod PairsBack
mod PrintedForms
mod PrintedParts
mod ReplyLevels
mod Reaching
mod RunBack
mod Stepping
mod VerdictLemmas
mod SomeVerdict
mod Walking
mod WordLemmas
