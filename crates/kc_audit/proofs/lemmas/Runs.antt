-- What other crates may cite of the text of a run, and what its lines say.

-- printed lines of a run say their kinds
pub use Rattle.kc_audit.proofs.PrintedForms.{lines_say_kinds}
-- a text is printed lines that say these kinds, whatever lines come after them
pub use Rattle.kc_audit.proofs.PrintedParts.{Prints}
-- no lines say nothing
pub use Rattle.kc_audit.proofs.PrintedParts.{prints_nothing}
-- a line says its kind
pub use Rattle.kc_audit.proofs.PrintedParts.{prints_line}
-- a text after another says its kinds after those
pub use Rattle.kc_audit.proofs.PrintedParts.{prints_both}
-- what a text says may be put in other words
pub use Rattle.kc_audit.proofs.PrintedParts.{prints_as}
-- the words of a group line
pub use Rattle.kc_audit.proofs.PrintedParts.{group_words}
-- the words of a group line say its group
pub use Rattle.kc_audit.proofs.PrintedParts.{group_says}
-- the words of a reader's line say its replies
pub use Rattle.kc_audit.proofs.PrintedParts.{reader_says}
-- what the lines of a run say, before other kinds
pub use Rattle.kc_audit.proofs.PrintedParts.{run_kinds_before}
-- a text of a run is read back, where no line can be longer than the input
pub use Rattle.kc_audit.proofs.PrintedParts.{whole_run}
-- the moves of a group line have levels
pub use Rattle.kc_audit.proofs.ReplyLevels.{HaveLevels}
-- batches that fit have group lines whose moves have levels
pub use Rattle.kc_audit.proofs.ReplyLevels.{batches_low}
-- replies that such group lines explain have levels
pub use Rattle.kc_audit.proofs.ReplyLevels.{reply_levels}
