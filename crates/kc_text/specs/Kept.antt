-- The lines of an input that aren't skipped.
use Rattle.std.specs.Prelude.{ℕ, Bool, false, List, [], ◌∷◌, Option, if◌then◌else◌}
use Rattle.std.specs.Option.{option_map}
use Rattle.kc_text.specs.declared.line.Line.{Line}
use Rattle.kc_text.specs.declared.line.Body.{Body}
use Rattle.kc_text.specs.declared.line.Body.TheVariants.{Text, TooLong, Limit, End}
use Rattle.kc_text.specs.Reading.{Reading, lines_left}
use Rattle.kc_text.specs.Words.{words, is_skip}

-- a line without a word, or whose first word begins with `#`; a line that is too long is never skipped
abbrev pub is_skipped : Body → Bool
is_skipped (Text text) = is_skip (words text)
is_skipped TooLong = false
is_skipped Limit = false
is_skipped End = false

-- the bytes of a line; none if it is too long or the input ends
abbrev pub text_of : Body → List ℕ
text_of (Text text) = text
text_of TooLong = []
text_of Limit = []
text_of End = []

-- the lines that aren't skipped
abbrev pub kept : List Line → List Line
kept [] = []
kept (line ∷ rest) = if is_skipped line.body then kept rest else line ∷ kept rest

-- the lines that a reader has still to give and that aren't skipped, if its source tells the bytes left
abbrev pub kept_left : Reading → Option (List ℕ) → Option (List Line)
kept_left r left = option_map kept (lines_left r left)
