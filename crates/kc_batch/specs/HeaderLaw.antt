-- The end of a header: the result for the lines of a header, stated without the order of reading.
use Rattle.std.specs.Prelude.{ℕ, ◌≡◌, ◌≤◌, true, false, List, [], ◌∷◌, ◌++◌, length, All, Some, None}
use Rattle.kc_levels.specs.declared.profile.Profile.{Profile}
use Rattle.kc_text.specs.declared.line.Line.{Line}
use Rattle.kc_text.specs.Words.{words}
use Rattle.kc_text.specs.Kept.{text_of}
use Rattle.kc_batch.specs.declared.ask.Ask.{Ask}
use Rattle.kc_batch.specs.Headers.{Accepted, Refused, profile_in, vertices_in, is_ask, ask_in, header_of}

abbrev pub line_words : Line → List (List ℕ)
line_words line = words (text_of line.body)

-- the line is an ask line of n vertices, with this ask
pub record IsAskLine (n : ℕ) (l : Line × Ask) : Type 0 where
  pub first : is_ask (line_words l.0) ≡ true
  pub ask : ask_in n (line_words l.0) ≡ Some l.1

abbrev pub lines_of : List (Line × Ask) → List Line
lines_of [] = []
lines_of (l ∷ ls) = l.0 ∷ lines_of ls

abbrev pub asks_of : List (Line × Ask) → List Ask
asks_of [] = []
asks_of (l ∷ ls) = l.1 ∷ asks_of ls

-- a first line with the profile, and `vertices N`
pub record IsBeginning (p : Profile) (n : ℕ) (first second : Line) : Type 0 where
  pub profile : profile_in (line_words first) ≡ Some p
  pub vertices : vertices_in (line_words second) ≡ Some n

-- the first two lines, some ask lines, and then a line that ends the header: another line, a faulty ask line, or a 65th
pub record FirstOtherLineEnds : Type 0 where
  pub accepted : (p : Profile) (n : ℕ) (first second line : Line) (ls : List (Line × Ask)) (rest : List Line) → IsBeginning p n first second → All (IsAskLine n) ls → length ls ≤ 64
      → is_ask (line_words line) ≡ false
      → header_of (first ∷ second ∷ lines_of ls ++ line ∷ rest) ≡ Accepted (record { profile = p; n = n; asks = asks_of ls }) (line ∷ rest)
  pub refused : (p : Profile) (n : ℕ) (first second line : Line) (ls : List (Line × Ask)) (rest : List Line) → IsBeginning p n first second → All (IsAskLine n) ls → length ls ≤ 64
      → is_ask (line_words line) ≡ true → ask_in n (line_words line) ≡ None
      → header_of (first ∷ second ∷ lines_of ls ++ line ∷ rest) ≡ Refused line.number
  pub too_many : (p : Profile) (n : ℕ) (first second line : Line) (ls : List (Line × Ask)) (rest : List Line) → IsBeginning p n first second → All (IsAskLine n) ls → length ls ≡ 64
      → is_ask (line_words line) ≡ true
      → header_of (first ∷ second ∷ lines_of ls ++ line ∷ rest) ≡ Refused line.number
