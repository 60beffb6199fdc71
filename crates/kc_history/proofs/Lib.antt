pub mod lemmas
mod PointLemmas
mod ReplyLemmas
