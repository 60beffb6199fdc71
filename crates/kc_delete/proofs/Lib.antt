mod WaitingLemmas
mod SettlingLemmas
mod FallenLemmas
