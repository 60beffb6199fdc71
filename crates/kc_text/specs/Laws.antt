-- What follows from the definitions of lines, words and numbers: general laws, and examples.
use Rattle.std.specs.Prelude.{ℕ, ◌+◌, ◌≡◌, ◌≢◌, ◌≤◌, List, [], ◌∷◌, ◌++◌, length, All, Some, None, codes, true, false}
use Rattle.kc_text.specs.declared.line.Line.{Line}
use Rattle.kc_text.specs.declared.line.Body.TheVariants.{Text, TooLong, Limit, End}
use Rattle.kc_text.specs.Lines.{lines, numbered_line, last_of, at_limit}
use Rattle.kc_text.specs.Words.{words, is_blank}
use Rattle.kc_text.specs.Numbers.{number_of}

-- no byte is a line feed
abbrev pub HasNoEnd : List ℕ → Type 0
HasNoEnd piece = All (λ b. b ≢ 10) piece

-- pieces with a line feed after each, and then a last piece without
abbrev pub joined : List (List ℕ) → List ℕ → List ℕ
joined [] last = last
joined (piece ∷ pieces) last = piece ++ 10 ∷ joined pieces last

-- the lines of pieces, numbered from n on
abbrev pub numbered : ℕ → ℕ → List (List ℕ) → List Line
numbered limit n [] = []
numbered limit n (piece ∷ pieces) = numbered_line limit n piece ∷ numbered limit (n + 1) pieces

-- the lines of an input within its limit are its pieces between line feeds, and the last piece if it isn't empty
abbrev pub CutsAtEnds : Type 0
CutsAtEnds = (limit room : ℕ) (pieces : List (List ℕ)) (last : List ℕ) → All HasNoEnd pieces → HasNoEnd last → length (joined pieces last) ≤ room
    → lines limit room (joined pieces last) ≡ numbered limit 1 pieces ++ last_of limit (1 + length pieces) last

-- if there are more bytes than the limit allows, the lines are those that end within it, and then `Limit`
abbrev pub StopsAtLimit : Type 0
StopsAtLimit = (limit room : ℕ) (pieces : List (List ℕ)) (last : List ℕ) (b : ℕ) (more : List ℕ) → All HasNoEnd pieces → HasNoEnd last → length (joined pieces last) ≡ room
    → lines limit room (joined pieces last ++ b ∷ more) ≡ numbered limit 1 pieces ++ at_limit (1 + length pieces)

-- all bytes are blanks or tabs
abbrev pub IsBlank : List ℕ → Type 0
IsBlank bs = All (λ b. is_blank b ≡ true) bs

-- no byte is a blank or a tab
abbrev pub HasNoBlank : List ℕ → Type 0
HasNoBlank bs = All (λ b. is_blank b ≡ false) bs

-- the words of a line are its longest runs of bytes that aren't blank
--
-- The first word is a run that has only blanks before it and that a blank or the line's end follows.
pub record AreLongestRuns : Type 0 where
  pub none : (blanks : List ℕ) → IsBlank blanks → words blanks ≡ []
  pub last : (blanks : List ℕ) (x : ℕ) (xs : List ℕ) → IsBlank blanks → HasNoBlank (x ∷ xs) → words (blanks ++ x ∷ xs) ≡ (x ∷ xs) ∷ []
  pub first : (blanks : List ℕ) (x : ℕ) (xs : List ℕ) (b : ℕ) (rest : List ℕ) → IsBlank blanks → HasNoBlank (x ∷ xs) → is_blank b ≡ true
      → words (blanks ++ (x ∷ xs) ++ b ∷ rest) ≡ (x ∷ xs) ∷ words rest

-- a carriage return before the line feed goes, an empty line counts, a comment is a line
abbrev pub CutsSevenBytes : Type 0
CutsSevenBytes = lines 65536 1073741824 (codes "a\r\n\n#x\n")
    ≡ record { number = 1; body = Text (codes "a") } ∷ record { number = 2; body = Text [] } ∷ record { number = 3; body = Text (codes "#x") } ∷ record { number = 4; body = End } ∷ []

-- the limit of the input cuts the third line
abbrev pub CutsWithinThirdLine : Type 0
CutsWithinThirdLine = lines 65536 6 (codes "ab\nc\nde\n")
    ≡ record { number = 1; body = Text (codes "ab") } ∷ record { number = 2; body = Text (codes "c") } ∷ record { number = 3; body = Limit } ∷ []

-- a carriage return counts for a line's length, and a last line needs no line feed
abbrev pub MeasuresLines : Type 0
MeasuresLines = lines 3 1073741824 (codes "abc\nabc\r\nabcd\nx")
    ≡ record { number = 1; body = Text (codes "abc") } ∷ record { number = 2; body = TooLong } ∷ record { number = 3; body = TooLong } ∷ record { number = 4; body = Text (codes "x") } ∷ record { number = 5; body = End } ∷ []

-- any number of blanks and tabs separates words
abbrev pub PartsWords : Type 0
PartsWords = words (codes " +  1\t20 ") ≡ codes "+" ∷ codes "1" ∷ codes "20" ∷ []

-- the greatest number, and what is no number: a greater one, an eleventh digit, a byte that is no digit, nothing
pub record ReadsNumbers : Type 0 where
  pub greatest : number_of (codes "4294967295") ≡ Some 4294967295
  pub greater : number_of (codes "4294967296") ≡ None
  pub zeros : number_of (codes "0000000001") ≡ Some 1
  pub eleven : number_of (codes "00000000001") ≡ None
  pub letter : number_of (codes "1a") ≡ None
  pub nothing : number_of [] ≡ None
