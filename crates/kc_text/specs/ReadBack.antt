-- Words, numbers and lines that are printed are read back as themselves.
use Rattle.std.specs.Prelude.{ℕ, ◌+◌, ◌≡◌, ◌<◌, ◌≤◌, ◌^◌, true, List, [], ◌∷◌, ◌++◌, length, Some, decimal}
use Rattle.std.specs.List.{list_all, join_with_byte}
use Rattle.kc_text.specs.declared.line.Body.TheVariants.{End}
use Rattle.kc_text.specs.Lines.{lines, lines_from}
use Rattle.kc_text.specs.Numbers.{number_of}
use Rattle.kc_text.specs.Words.{words}
use Rattle.kc_text.specs.Printing.{is_word, is_line, printed, lines_of_words}

-- words with one blank between them are the words of the line
abbrev pub WordsAreReadBack : Type 0
WordsAreReadBack = (ws : List (List ℕ)) → list_all is_word ws ≡ true → words (join_with_byte 32 ws) ≡ ws

-- the decimal digits of a `u32` are read as that number, and are a word of at most ten bytes
pub record NumbersAreReadBack : Type 0 where
  pub value : (n : ℕ) → n < 2 ^ 32 → number_of (decimal n) ≡ Some n
  pub word : (n : ℕ) → n < 2 ^ 32 → is_word (decimal n) ≡ true
  pub short : (n : ℕ) → n < 2 ^ 32 → length (decimal n) ≤ 10

-- lines of words are read as these lines, each with its number
--
-- The text after them is read as it would be alone, numbered from the next number on.
pub record LinesAreReadBack : Type 0 where
  pub front : (limit n room : ℕ) (ls : List (List (List ℕ))) (more : List ℕ) → list_all (is_line limit) ls ≡ true
      → lines_from limit n (length (printed ls) + room) [] (printed ls ++ more) ≡ lines_of_words n ls ++ lines_from limit (n + length ls) room [] more
  pub whole : (limit room : ℕ) (ls : List (List (List ℕ))) → list_all (is_line limit) ls ≡ true → length (printed ls) ≤ room
      → lines limit room (printed ls) ≡ lines_of_words 1 ls ++ record { number = 1 + length ls; body = End } ∷ []
