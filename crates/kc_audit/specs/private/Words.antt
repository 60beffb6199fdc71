-- What is returned for the first number of a line.
use Rattle.std.specs.Prelude.{ℕ, List, Option, Some, None, drop}
use Rattle.kc_text.specs.Words.{words}

-- the number and the words after it, which begin at a place of the text
abbrev pub number_found : List ℕ → Option (ℕ × ℕ) → Option (ℕ × List (List ℕ))
number_found text (Some found) = Some (found.0, words (drop found.1 text))
number_found text None = None
