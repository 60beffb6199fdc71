-- The places of the parts of a line of two numbers.
use Rattle.std.specs.Prelude.{ℕ, ◌+◌, ◌≡◌, ◌==◌, ◌<◌, ◌≤◌, nat_lt, Bool, true, false, ◌||◌, List, ◌++◌, length, take, get_or, Option, Some, None, if◌then◌else◌}
use Rattle.std.specs.List.{slice_range}
use Rattle.kc_text.specs.declared.number_line.Sign.{Sign}
use Rattle.kc_text.specs.declared.number_line.Sign.TheVariants.{Plus, Minus}
use Rattle.kc_text.specs.declared.number_line.NumberLine.{NumberLine}
use Rattle.kc_text.specs.declared.number_line.NamedNumbers.{NamedNumbers}
use Rattle.kc_text.specs.Lines.{without_cr}
use Rattle.kc_text.specs.Words.{words, is_blank}
use Rattle.kc_text.specs.Numbers.{is_digit}
use Rattle.kc_text.specs.NumberLines.{SayNumbers, SayNamed, IsNoNumberLine, IsNoNamedLine}
use Rattle.kc_text.specs.private.Numbers.{DigitsTo}
use Rattle.kc_text.specs.private.WholeLines.{EndsAt}

-- the sign that a byte is, if it is one
abbrev pub sign_of : ℕ → Option Sign
sign_of b = if b == 43 then Some Plus else if b == 45 then Some Minus else None

-- the sign that the first byte of a line is, or none, and where its numbers begin, by its second byte
abbrev pub front_by : Option Sign → ℕ → Option (Option Sign × ℕ)
front_by None second = Some (None, 0)
front_by (Some sign) second = if is_blank second then Some (Some sign, 2) else None

-- the sign with which a line begins, or none, and where its numbers begin
--
-- There is neither if a sign isn't followed by a blank, or if there are fewer than two bytes.
unfoldable pub front_of : List ℕ → Option (Option Sign × ℕ)
front_of bytes = if nat_lt (length bytes) 2 then None else front_by (sign_of (get_or bytes 0 0)) (get_or bytes 1 0)

-- a line that begins with these bytes has the words of this front, and the rest of its words begin at `start`
pub record BeginsAt (bytes : List ℕ) (front : List (List ℕ) → List (List ℕ)) (start : ℕ) : Type 0 where
  pub within : start ≤ length bytes
  pub words_are : (rest : List ℕ) → words (take start bytes ++ rest) ≡ front (words rest)
  pub plain : (k : ℕ) → k < start → (get_or bytes k 0 == 10) ≡ false

-- a line feed stands at `len`, which is `end`, or after a carriage return at `end`
pub record ClosesAt (bytes : List ℕ) (end len : ℕ) : Type 0 where
  pub after : end ≤ len
  pub near : len ≤ end + 1
  pub within : len < length bytes
  pub here : get_or bytes len 0 ≡ 10
  pub before : end < len → get_or bytes end 0 ≡ 13

-- a digit or a blank
abbrev pub is_plain : ℕ → Bool
is_plain b = is_digit b || is_blank b

-- the bytes from `start` on, up to a line's end, are two numbers and one blank between them
--
-- The line feed stands at `len`.
pub record NumbersStand (bytes : List ℕ) (start first second len : ℕ) : Type 0 where
  pub middle : ℕ
  pub end : ℕ
  pub one : DigitsTo bytes start first middle
  pub blank : is_blank (get_or bytes middle 0) ≡ true
  pub two : DigitsTo bytes (middle + 1) second end
  pub closes : ClosesAt bytes end len

-- no two numbers with one blank between them stand from `start` on, up to a line's end
abbrev pub HaveNoNumbers : List ℕ → ℕ → Type 0
HaveNoNumbers bytes start = (first second len : ℕ) → NumbersStand bytes start first second len → ⊥

-- the bytes from `start` on, up to a line's end, say two numbers; the line feed stands at `len`
pub record NumbersTo (bytes : List ℕ) (start first second len : ℕ) : Type 0 where
  pub end : ℕ
  pub after : start < end
  pub closes : ClosesAt bytes end len
  pub plain : (k : ℕ) → start ≤ k → k < end → is_plain (get_or bytes k 0) ≡ true
  pub says : SayNumbers (words (slice_range bytes start end)) None first second

-- the bytes begin with this line
pub record IsNumberLine (bytes : List ℕ) (line : NumberLine) : Type 0 where
  pub ends : EndsAt bytes line.len
  pub says : SayNumbers (words (without_cr (take line.len bytes))) line.sign line.first line.second

-- the bytes don't begin with a line of two numbers and nothing else
abbrev pub HaveNoNumberLine : List ℕ → Type 0
HaveNoNumberLine bytes = (len : ℕ) → EndsAt bytes len → IsNoNumberLine (without_cr (take len bytes))

-- the bytes begin with this line of the name and two numbers
pub record IsNamedLine (bytes name : List ℕ) (line : NamedNumbers) : Type 0 where
  pub ends : EndsAt bytes line.len
  pub says : SayNamed (words (without_cr (take line.len bytes))) name line.first line.second

-- the bytes don't begin with a line of the name, a blank, two numbers and nothing else
abbrev pub HaveNoNamedLine : List ℕ → List ℕ → Type 0
HaveNoNamedLine bytes name = (len : ℕ) → EndsAt bytes len → IsNoNamedLine (without_cr (take len bytes)) name
