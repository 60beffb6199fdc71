-- The words of a line.
use Rattle.std.specs.Prelude.{ℕ, ◌≡◌, ◌<◌, ◌≤◌, ◌==◌, Bool, true, ◌||◌, List, [], ◌∷◌, ◌++◌, length, drop, slice_index, if◌then◌else◌}
use Rattle.std.specs.List.{slice_range}

-- a byte that separates words: a blank or a tab
abbrev pub is_blank : ℕ → Bool
is_blank b = (b == 32) || (b == 9)

-- a word that has begun, and the words after it
abbrev pub closed : List ℕ → List (List ℕ) → List (List ℕ)
closed [] rest = rest
closed (x ∷ xs) rest = (x ∷ xs) ∷ rest

-- the words of the rest of a line, after a piece of the first of them
unfoldable pub words_from : List ℕ → List ℕ → List (List ℕ)
words_from piece [] = closed piece []
words_from piece (b ∷ bs) = if is_blank b then closed piece (words_from [] bs) else words_from (piece ++ b ∷ []) bs

-- the words of a line
abbrev pub words : List ℕ → List (List ℕ)
words line = words_from [] line

-- a line of these words is skipped: there is none, or the first begins with `#`
abbrev pub is_skip : List (List ℕ) → Bool
is_skip [] = true
is_skip (w ∷ ws) = slice_index w 0 == 35

-- the first word at or after `from` lies there, and the other words after it
pub record WordAt (line : List ℕ) (from start end : ℕ) : Type 0 where
  pub after : from ≤ start
  pub some : start < end
  pub within : end ≤ length line
  pub words : words (drop from line) ≡ slice_range line start end ∷ words (drop end line)
