-- Lines as they are printed: words with one blank between two of them, and a line feed after the last.
use Rattle.std.specs.Prelude.{ℕ, ◌+◌, nat_lt, nat_le, Bool, ◌&&◌, List, [], ◌∷◌, ◌++◌, length}
use Rattle.std.specs.List.{list_all, join_with_byte, flat_map}
use Rattle.kc_text.specs.declared.line.Line.{Line}
use Rattle.kc_text.specs.declared.line.Body.TheVariants.{Text}

-- bytes that may be printed as a word: at least one, and each greater than the blank
abbrev pub is_word : List ℕ → Bool
is_word w = nat_lt 0 (length w) && list_all (λ b. nat_lt 32 b) w

-- words that may be printed as a line of at most `limit` bytes
abbrev pub is_line : ℕ → List (List ℕ) → Bool
is_line limit ws = list_all is_word ws && nat_le (length (join_with_byte 32 ws)) limit

-- a line of words
abbrev pub printed_line : List (List ℕ) → List ℕ
printed_line ws = join_with_byte 32 ws ++ 10 ∷ []

-- lines of words
unfoldable pub printed : List (List (List ℕ)) → List ℕ
printed ls = flat_map printed_line ls

-- the lines that are read from printed lines of words, numbered from n on
unfoldable pub lines_of_words : ℕ → List (List (List ℕ)) → List Line
lines_of_words n [] = []
lines_of_words n (ws ∷ ls) = record { number = n; body = Text (join_with_byte 32 ws) } ∷ lines_of_words (n + 1) ls
