pub mod lemmas
mod LineLemmas
mod MemberLemmas
mod ReaderLemmas
mod TextLemmas
mod VertexLemmas
