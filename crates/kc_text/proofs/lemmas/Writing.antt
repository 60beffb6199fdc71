-- The lemmas that other crates may cite about the bytes taken by a sink, if the sink tells them.

-- to take nothing changes nothing
pub use Rattle.kc_text.proofs.Known.{append_none}
-- to take a and then b is to take both
pub use Rattle.kc_text.proofs.Known.{append_twice}
-- one line is a text of its own
pub use Rattle.kc_text.proofs.Known.{appends_send}
-- all of a was taken, and then as much of b as the result says
pub use Rattle.kc_text.proofs.Known.{appends_then}
-- if the whole text was taken, a prefix of it was
pub use Rattle.kc_text.proofs.Known.{prefix_all}
-- a prefix of a is a prefix of a and b
pub use Rattle.kc_text.proofs.Known.{prefix_longer}
-- nothing is a prefix of each text
pub use Rattle.kc_text.proofs.Known.{prefix_none}
-- all of a was taken, and then a prefix of b
pub use Rattle.kc_text.proofs.Known.{prefix_then}
