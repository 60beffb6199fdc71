-- The lemmas that other crates may cite about texts that are read back.

-- lines that are printed are read back as those lines
pub use Rattle.kc_text.proofs.PrintedText.{lines_back as lines_are_read_back}
-- words that are printed in a line are read back as those words
pub use Rattle.kc_text.proofs.PrintedText.{words_back as words_are_read_back}
-- numbers that are printed are read back as those numbers
pub use Rattle.kc_text.proofs.PrintedText.{numbers_back as numbers_are_read_back}
