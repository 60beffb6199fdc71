pub mod lemmas
mod AfreshLemmas
mod Counted
mod Moving
mod LiftLemmas
mod Linking
mod Marks
mod PassLemmas
