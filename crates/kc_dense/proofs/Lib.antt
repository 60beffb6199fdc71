pub mod lemmas
mod TournamentLemmas
mod SetLemmas
mod DegreeLemmas
mod FactorLemmas
mod PeelingLemmas
mod RemainingLemmas
mod WalkLemmas
mod MemberLemmas
